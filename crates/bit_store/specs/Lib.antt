pub mod Bits
pub mod Rice
pub mod Counts
pub mod Reserved
