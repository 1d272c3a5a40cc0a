pub mod Levels
pub mod Keys
