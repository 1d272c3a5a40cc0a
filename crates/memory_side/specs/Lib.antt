pub mod Memory
pub mod MemoryDisks
pub mod MemoryKeepers
pub mod RowTree
