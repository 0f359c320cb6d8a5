pub mod Grants
pub mod Latest
