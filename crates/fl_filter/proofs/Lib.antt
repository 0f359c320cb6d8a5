pub mod Alike
pub mod Clients
pub mod Remaining
pub mod Speaking
