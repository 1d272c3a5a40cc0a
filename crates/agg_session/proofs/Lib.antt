pub mod ServingLaws
pub mod StoppingLaws
pub mod BlameLaws
pub mod TakingLaws
pub mod TopLaws
