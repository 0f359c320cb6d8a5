mod Names
mod Listed
mod Counted
mod Spread
mod Read
mod Filled
mod Copied
mod Put
pub mod Ended
mod Laid
