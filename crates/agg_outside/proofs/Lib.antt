pub mod FileOrder
pub mod FileEdits
