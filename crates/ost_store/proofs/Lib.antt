pub mod Elements
pub mod Gathered
mod Gets
mod Levels
pub mod Lists
mod Placed
pub mod Ready
mod Sorted
pub mod Staged
mod Stored
pub mod Said
pub mod Staying
pub mod Samples
pub mod Creating
mod Contents
pub mod Holding
pub mod ObjectPaths
