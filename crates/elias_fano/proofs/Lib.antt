mod Rows
pub mod Lower
pub mod Waiting
pub mod Upper
pub mod Places
pub mod Bounds
pub mod Marked
pub mod Faults
pub mod Widths
pub mod Checked
pub mod Joined
pub mod Spelled
pub mod ReadBack
pub mod Known
pub mod Behind
pub mod Opened
pub mod Written
