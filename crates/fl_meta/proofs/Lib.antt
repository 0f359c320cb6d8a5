pub mod Whole
pub mod Endings
pub mod Normal
pub mod Tidy
pub mod PlaceRows
pub mod ListRows
pub mod Searches
pub mod Same
