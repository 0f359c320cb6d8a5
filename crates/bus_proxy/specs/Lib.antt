pub mod Arrivals
pub mod Outs
pub mod Streaming
pub mod Filters
pub mod Rows
pub mod Laws
