pub mod Above
pub mod Counting
pub mod Entries
pub mod Stocking
pub mod Wares
pub mod Reading
pub mod Offering
pub mod Installs
