pub mod Filtered
pub mod Printed
