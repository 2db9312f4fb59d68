pub mod Tests
pub mod Lag
pub mod Discard
pub mod Few
pub mod Limits
