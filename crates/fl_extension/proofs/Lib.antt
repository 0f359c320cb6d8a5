pub mod Seen
pub mod Sorting
pub mod Groups
pub mod Having
