pub mod Changes
pub mod Errors
pub mod Kills
pub mod Places
pub mod Seen
pub mod Starts
pub mod Versions
