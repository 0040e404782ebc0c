pub mod States
pub mod Causes
pub mod Memory
pub mod Adapters
pub mod Pages
pub mod Statuses
