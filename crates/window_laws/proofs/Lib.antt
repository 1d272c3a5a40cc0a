pub mod Sorted
pub mod Values
pub mod Numbers
pub mod KeyOrder
pub mod Listed
