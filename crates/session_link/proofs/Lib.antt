pub mod StoreLaws
pub mod LinkLaws
pub mod SessionLaws
pub mod LineLaws
