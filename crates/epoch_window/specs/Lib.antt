pub mod Seen
pub mod Later
