pub mod Tweening
pub mod Settings
