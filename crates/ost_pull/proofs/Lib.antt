mod Gathered
mod Kept
mod Contents
mod Given
mod Apart
mod Pulled
mod Taken
mod Placed
mod Last
mod Stored
mod Whole
pub mod Samples
mod Read
mod Batched
mod Joined
mod Trusted
pub mod TrueFiles
