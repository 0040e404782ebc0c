pub mod Scripts
pub mod Lanes
pub mod Locks
