pub mod Merged
pub mod MergeState
pub mod Rows
pub mod StateRows
