pub mod Seating
mod Entries
mod Trying
mod Waiting
mod Lone
mod SeenRows
