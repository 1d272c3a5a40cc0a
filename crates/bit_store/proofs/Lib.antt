pub mod Numbers
pub mod Texts
pub mod Writing
pub mod Views
pub mod Zeros
pub mod Codes
pub mod Room
