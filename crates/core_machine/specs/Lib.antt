pub mod Texts
pub mod Sound
pub mod Publishing
pub mod Entries
pub mod Histories
