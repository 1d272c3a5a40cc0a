pub mod Climbing
pub mod EfFile
pub mod EfRules
