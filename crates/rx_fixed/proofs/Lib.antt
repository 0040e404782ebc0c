mod Grows
mod Rows
mod Leasts
mod Served
