pub mod Booleans
pub mod Options
pub mod Lists
pub mod Texts
pub mod ObjectKinds
pub mod Lines
