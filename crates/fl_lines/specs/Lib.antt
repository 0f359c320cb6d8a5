pub mod PrintedWords
pub mod Lines
pub mod Advice
