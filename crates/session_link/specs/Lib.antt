pub mod State
pub mod Effects
pub mod Links
pub mod Running
