pub mod Session
pub mod Sound
