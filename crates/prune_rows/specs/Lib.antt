pub mod Prunes
