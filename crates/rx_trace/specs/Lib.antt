pub mod Tests
pub mod Report
pub mod RunBanks
pub mod Runs
pub mod ReportRows
