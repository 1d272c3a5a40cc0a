pub mod Spellings
pub mod Searches
pub mod Seeks
pub mod Descents
pub mod Comparisons
pub mod Extents
