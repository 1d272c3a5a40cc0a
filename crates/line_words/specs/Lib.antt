pub mod CutLends
pub mod LineCut
pub mod Lines
pub mod Replies
pub mod Requests
pub mod Words
