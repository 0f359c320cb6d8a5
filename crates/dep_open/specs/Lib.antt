pub mod Open
pub mod Ends
pub mod Parts
