pub mod Spared
pub mod Kept
pub mod Moments
pub mod Digests
pub mod Dirtrees
pub mod OneCommit
mod Free
