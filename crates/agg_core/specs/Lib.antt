pub mod Names
pub mod Bytes
pub mod Files
pub mod Rows
pub mod Consistent
