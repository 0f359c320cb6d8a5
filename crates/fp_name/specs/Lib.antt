pub mod Bytes
pub mod FileNames
pub mod Grammar
pub mod Hex
pub mod Kinds
pub mod Parts
pub mod Pins
pub mod Refs
