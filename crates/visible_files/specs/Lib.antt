pub mod Ids
pub mod Held
pub mod Strays
pub mod Sets
