pub mod ChargedTasks
pub mod Verdicts
pub mod Rows
