pub mod Answers
pub mod Decodes
pub mod Entries
pub mod Parts
pub mod Values
pub mod Views
pub mod Writes
