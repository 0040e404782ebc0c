pub mod Calls
pub mod Puts
mod CallRows
mod Gathering
mod MemoryRows
mod Reading
