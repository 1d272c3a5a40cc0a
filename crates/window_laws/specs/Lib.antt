pub mod Parts
pub mod Pages
