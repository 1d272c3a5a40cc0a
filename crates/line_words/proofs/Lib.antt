pub mod LastLine
pub mod LineEnds
pub mod Cuts
pub mod Feeds
pub mod Numerals
pub mod Pieces
pub mod Names
