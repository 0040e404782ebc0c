pub mod Scripts
pub mod Lanes
pub mod Lists
pub mod Runs
pub mod Histories
pub mod Rows
