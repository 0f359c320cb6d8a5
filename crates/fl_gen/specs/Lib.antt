pub mod Made
pub mod Stores
pub mod Keeping
pub mod Generator
pub mod Offered
pub mod Exercise
