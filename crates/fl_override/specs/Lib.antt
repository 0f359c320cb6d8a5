pub mod Written
pub mod Overrides
