pub mod Counts
pub mod Intervals
pub mod Ledgers
pub mod Rows
