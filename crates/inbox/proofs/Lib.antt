pub mod Steps
pub mod Passes
pub mod Bounds
pub mod Messages
