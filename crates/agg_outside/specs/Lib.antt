pub mod Counts
pub mod Rows
pub mod RowOrder
pub mod Files
pub mod Links
pub mod FileList
pub mod FilePlaces
pub mod Devices
