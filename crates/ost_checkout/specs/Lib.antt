pub mod Checkout
pub mod Ends
pub mod Rows
pub mod Reading
pub mod Listing
pub mod Placing
