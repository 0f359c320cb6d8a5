pub mod Elements
pub mod Files
mod Rows
mod Places
mod Drops
mod Levels
mod Named
mod Found
mod Reached
mod Stats
