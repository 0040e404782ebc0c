pub mod Core
pub mod Lawful
pub mod Events
pub mod Ports
pub mod Plain
pub mod Seats
pub mod Rows
