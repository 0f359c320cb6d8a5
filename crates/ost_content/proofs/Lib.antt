pub mod Spelled
pub mod Told
pub mod Values
pub mod Links
