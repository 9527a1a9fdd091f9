pub mod ClassLaws
pub mod MergeCount
pub mod LinkLaws
pub mod ClassTables
