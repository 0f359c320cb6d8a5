pub mod Places
pub mod Looked
pub mod Stores
pub mod Local
pub mod Pending
pub mod Good
mod Rows
mod Examples
pub mod Sample
pub mod Supplied
pub mod Once
pub mod Stored
pub mod Members
pub mod Faults
pub mod Spots
pub mod Readers
