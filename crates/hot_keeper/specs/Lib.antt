pub mod Errors
pub mod NoteOrder
pub mod Notes
pub mod Pruning
pub mod ReadAhead
pub mod Skips
pub mod Windows
