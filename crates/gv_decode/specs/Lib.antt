pub mod Decoded
pub mod Stepped
