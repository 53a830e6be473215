pub mod WorkedPackets
pub mod WorkedQueries
