pub mod Scanning
pub mod Arriving
