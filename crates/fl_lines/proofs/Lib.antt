pub mod Escapes
pub mod Rows
pub mod Unescaped
pub mod Explained
