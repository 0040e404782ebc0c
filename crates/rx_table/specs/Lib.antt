pub mod Rule
pub mod Seats
pub mod Tables
pub mod Closings
pub mod Rows
