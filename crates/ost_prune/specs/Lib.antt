pub mod Prune
pub mod Texts
pub mod Finding
pub mod Removing
