pub mod Staging
pub mod Placing
pub mod Storing
pub mod Exports
pub mod Remotes
