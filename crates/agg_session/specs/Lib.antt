pub mod Answer
pub mod Ends
pub mod Statuses
pub mod Served
pub mod Written
pub mod Top
pub mod Over
