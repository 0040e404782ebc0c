pub mod Lists
pub mod Histories
pub mod Placing
pub mod Lawfully
pub mod Seating
pub mod BankSteps
pub mod BankMoves
mod CellPlans
