pub mod Points
pub mod Seen
pub mod Found
