pub mod Gathering
mod Stepping
mod Owning
mod Joining
mod Moves
mod Copying
mod NewSeats
