pub mod Scan
pub mod Inner
