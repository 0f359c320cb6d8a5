pub mod Work
pub mod Takes
pub mod Pulls
pub mod Placing
pub mod Batches
pub mod Trusts
pub mod Turns
