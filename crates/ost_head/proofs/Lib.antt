mod Judged
pub mod Fetched
mod Stored
mod Loaded
pub mod Looking
mod Headed
mod Parted
mod Entered
mod Pieces
mod Checked
mod Told
mod Copied
mod Brought
mod Kept
