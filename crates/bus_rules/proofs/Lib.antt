pub mod Splits
pub mod Spelling
pub mod Below
