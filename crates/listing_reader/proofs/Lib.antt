pub mod CutLemmas
pub mod ListLemmas
pub mod PrintedLines
pub mod ReadLists
pub mod RowCuts
pub mod RowLemmas
