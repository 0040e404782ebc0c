pub mod States
pub mod Sums
pub mod Banks
pub mod Executive
