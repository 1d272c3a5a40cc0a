pub mod Built
pub mod Checked
pub mod Faults
pub mod Held
pub mod LookBack
pub mod Standing
pub mod Words
pub mod KvFileLaws
