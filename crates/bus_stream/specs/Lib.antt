pub mod Cuts
pub mod Recordings
pub mod Stream
