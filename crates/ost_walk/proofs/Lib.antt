mod Fetched
mod Read
mod Listed
mod Checked
mod Walked
pub mod Quiet
mod Followed
pub mod Kept
mod Surveyed
pub mod Ended
pub mod PullEnded
