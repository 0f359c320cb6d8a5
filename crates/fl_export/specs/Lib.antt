pub mod Keys
pub mod Rewritten
pub mod Texts
pub mod Trees
pub mod Exported
pub mod Sample
pub mod Placed
pub mod Steps
