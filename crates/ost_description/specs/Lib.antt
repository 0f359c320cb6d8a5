pub mod Parts
pub mod Descriptions
pub mod Commits
pub mod Writing
