pub mod Befores
pub mod KeyWord
pub mod Rules
pub mod VFile
