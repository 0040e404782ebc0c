pub mod AnyShapes
pub mod Operations
pub mod Turns
pub mod Steps
pub mod OnBanks
pub mod MachineStates
pub mod Pairs
pub mod Rows
