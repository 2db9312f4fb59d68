pub mod Publish
pub mod Ending
pub mod Inner
