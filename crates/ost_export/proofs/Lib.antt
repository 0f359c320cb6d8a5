mod Exported
mod Filling
mod Furnished
mod Given
mod Listed
mod Objects
mod Offering
pub mod Paths
mod Placed
pub mod Spared
mod Staged
mod Stored
mod Works
