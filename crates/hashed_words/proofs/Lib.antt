pub mod Filters
pub mod Begins
pub mod Walks
pub mod Values
pub mod Openings
pub mod PairedLaws
pub mod KeyTests
