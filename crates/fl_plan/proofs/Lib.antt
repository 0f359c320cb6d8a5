pub mod Steps
pub mod Heads
pub mod Offering
mod Own
pub mod Points
pub mod Skips
pub mod Turns
pub mod Apart
pub mod Parts
pub mod Rows
pub mod Samples
pub mod WorkedOut
pub mod Taking
