pub mod Receive
pub mod Inner
