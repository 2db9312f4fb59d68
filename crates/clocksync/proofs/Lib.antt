pub mod Rfc
pub mod Lists
pub mod Tests
pub mod Samples
pub mod Sound
pub mod Ready
