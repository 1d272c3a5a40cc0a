pub mod OneName
pub mod Written
pub mod Stays
pub mod Kept
