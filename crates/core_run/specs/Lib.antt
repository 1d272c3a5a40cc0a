pub mod Running
pub mod Rows
pub mod Publishes
pub mod Ingests
pub mod Runs
pub mod Legal
pub mod Consistent
pub mod Counts
