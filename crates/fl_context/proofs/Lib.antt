pub mod Merging
pub mod Ascending
