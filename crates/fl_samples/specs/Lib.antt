pub mod Objects
pub mod Image
pub mod Views
pub mod Operations
pub mod Remote
pub mod Exports
pub mod Lists
pub mod Update
