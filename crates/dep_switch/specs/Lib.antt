pub mod Rows
pub mod Writing
pub mod Staging
pub mod Retiring
pub mod Samples
