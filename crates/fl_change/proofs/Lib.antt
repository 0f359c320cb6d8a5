pub mod Same
pub mod Worlds
pub mod Both
pub mod StoreConfig
pub mod Changing
pub mod Saying
pub mod Stored
pub mod Kept
pub mod Brought
pub mod Created
pub mod Pulled
pub mod Resting
mod Adding
pub mod Doing
pub mod Turning
pub mod Working
pub mod Acting
pub mod Composing
pub mod Tidying
pub mod Asking
pub mod Skipping
pub mod Looking
pub mod Overrides
pub mod OverrideRows
pub mod Targets
pub mod Commands
pub mod Trying
pub mod Passed
pub mod Installed
pub mod Rows
pub mod Steps
pub mod IdleTargets
pub mod Updates
mod Offered
mod Idling
pub mod Refusing
