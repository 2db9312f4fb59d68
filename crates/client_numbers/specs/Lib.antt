pub mod Numbers
pub mod Decided
