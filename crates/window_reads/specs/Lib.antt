pub mod Standing
pub mod Folds
