pub mod Report
pub mod Judging
pub mod Picking
pub mod Batches
pub mod Laws
