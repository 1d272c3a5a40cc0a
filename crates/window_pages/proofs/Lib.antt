pub mod KeyWalks
pub mod Places
pub mod Changes
pub mod Finds
pub mod NextKeys
pub mod PageRows
