mod Picking
mod Judged
mod Reporting
mod Itemed
mod Batched
pub mod Single
mod Samples
