pub mod Closings
pub mod Elements
pub mod Numbers
pub mod Pairs
pub mod Parts
pub mod Placed
pub mod Steps
