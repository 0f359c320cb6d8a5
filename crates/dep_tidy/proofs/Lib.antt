pub mod Views
mod Alter
pub mod Apart
mod Clearing
mod UnkeptFolders
pub mod RowsKept
mod OldFiles
mod Lasted
pub mod RefFiles
pub mod Pruned
mod Joined
mod Ended
pub mod Small
mod Added
pub mod Left
