pub mod Layers
pub mod Lines
pub mod Rows
pub mod Splits
pub mod Reading
pub mod RuleOptions
