pub mod CanonicalNames
pub mod Cut
pub mod Kind
pub mod Name
