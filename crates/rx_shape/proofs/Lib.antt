pub mod Times
pub mod Numbering
pub mod Chains
pub mod NodeForm
pub mod Local
pub mod InlinePlans
pub mod Starts
mod Ends
pub mod Quiet
pub mod Staying
mod BlockForm
mod Walked
mod BlockWants
mod Moving
mod BlockPlans
mod Served
mod Settling
