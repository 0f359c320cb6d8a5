pub mod Over
pub mod Altering
mod Looking
pub mod Starting
pub mod Opening
pub mod Described
pub mod Stored
pub mod Listed
pub mod Asked
pub mod Finishing
pub mod Joining
pub mod Ending
pub mod Refreshed
pub mod InStep
pub mod ExportLaws
pub mod Refusing
pub mod Reading
pub mod Forwarding
pub mod Finding
pub mod ShowInput
pub mod Shown
mod Checked
mod Making
pub mod Exercises
mod Idle
pub mod Lines
pub mod Followed
mod Whole
mod Contract
