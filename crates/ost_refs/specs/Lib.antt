pub mod Places
pub mod Files
pub mod Changes
pub mod Lists
pub mod Walks
pub mod Found
pub mod Offers
