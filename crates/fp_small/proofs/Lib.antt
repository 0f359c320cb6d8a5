pub mod Making
pub mod Unsynced
pub mod Keeping
pub mod Sharing
pub mod Emptying
pub mod NamingLemmas
pub mod Remoting
pub mod Replacement
pub mod Staging
pub mod Whole
pub mod Ordered
pub mod Sorted
pub mod Pinning
pub mod ConfigReads
pub mod ConfigTexts
mod ConfigRows
mod OldRows
mod SmallFiles
pub mod OldReads
pub mod Bare
pub mod Within
pub mod Elements
