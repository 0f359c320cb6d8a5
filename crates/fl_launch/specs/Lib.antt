pub mod Layers
pub mod Granted
pub mod Extensions
pub mod Launch
pub mod Policies
pub mod Groups
