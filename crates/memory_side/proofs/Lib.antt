pub mod RowPlaces
pub mod RowSlots
pub mod CallLists
pub mod RowAdds
pub mod TestFiles
