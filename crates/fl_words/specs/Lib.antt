pub mod Types
pub mod Counts
pub mod Forms
pub mod Words
pub mod Reading
pub mod Batch
pub mod Reasons
pub mod Notes
