pub mod Starts
pub mod Places
pub mod Finds
pub mod Standing
pub mod Asking
pub mod Looks
