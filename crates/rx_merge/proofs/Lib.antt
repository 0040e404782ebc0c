mod Filters
mod Moves
mod Steps
mod Whole
mod Tallies
mod MergeStates
mod Samples
mod StateRows
