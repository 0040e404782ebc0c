pub mod Elements
pub mod Counts
pub mod Exposed
pub mod Ranks
pub mod Releases
pub mod Keys
pub mod Readings
pub mod Totals
pub mod Firsts
mod Pigeons
mod Orders
mod Kept
mod Draws
mod ValidSets
mod LeastTimes
