pub mod Counting
pub mod Banks
pub mod Lines
mod Writes
mod NewBanks
