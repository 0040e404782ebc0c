pub mod Attempts
pub mod Ordered
pub mod Kept
mod QuietCalls
mod Histories
