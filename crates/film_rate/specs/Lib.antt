pub mod Spans
pub mod Division
