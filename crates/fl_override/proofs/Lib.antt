pub mod Plain
pub mod Closed
pub mod Places
pub mod Reading
pub mod Back
pub mod Sets
pub mod Files
