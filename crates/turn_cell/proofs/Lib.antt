pub mod Basics
pub mod Queues
pub mod Histories
pub mod Keeps
