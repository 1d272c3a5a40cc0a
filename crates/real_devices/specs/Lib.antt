pub mod Faults
pub mod FileNames
pub mod IdBytes
pub mod IdOrder
