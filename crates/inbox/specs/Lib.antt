pub mod Inbox
pub mod Inner
pub mod Reader
pub mod Passes
