mod Totals
mod Multiples
mod Needs
mod Steps
mod Costs
mod Answered
