pub mod Kept
pub mod Tidy
pub mod Steps
pub mod Pruned
pub mod Lasts
