pub mod Rules
pub mod Faults
pub mod Filter
pub mod Hashed
pub mod PlainKeys
pub mod PairedWords
