pub mod Levels
pub mod Driver
pub mod Events
pub mod Verdicts
pub mod Watching
pub mod Rows
pub mod Laws
