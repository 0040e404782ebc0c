pub mod Copies
pub mod Chains
pub mod Rows
