pub mod Table
pub mod Quiet
pub mod History
pub mod Legal
pub mod States
pub mod Places
pub mod Rows
