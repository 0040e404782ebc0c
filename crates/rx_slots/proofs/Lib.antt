pub mod Lists
pub mod Prefixes
pub mod Choices
pub mod Steps
pub mod Shares
pub mod Attempts
pub mod Entries
pub mod Wins
pub mod Fitting
pub mod NoMisses
mod SlotEvents
mod Preemptions
mod Decisions
mod Tallies
mod Bodies
mod JobSums
mod StatedTicks
mod Families
mod WindowLaw
mod Moments
mod JobCounts
mod FixedKeys
mod Served
mod Demanded
mod Earliest
mod Concrete
mod Charged
mod EventSums
mod Bounded
mod Times
mod Spoilers
