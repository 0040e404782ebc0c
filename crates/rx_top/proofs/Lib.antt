mod NoMisses
mod Sharing
mod Noting
mod Endings
mod Determinations
mod Outcomes
