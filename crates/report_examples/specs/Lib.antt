pub mod Printed
pub mod Reported
pub mod Stops
pub mod Refusals
pub mod Middleboxes
pub mod FlowGrammar
pub mod FlowLogs
pub mod FlowSorts
