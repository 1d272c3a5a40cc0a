pub mod Answering
pub mod KillLaws
pub mod LastWalks
pub mod PieceWalks
pub mod RowWalks
pub mod WriteLaws
