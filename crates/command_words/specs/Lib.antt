pub mod CommandWords
pub mod Sizes
