pub mod Ranges
pub mod Division
