pub mod Reading
mod Receiving
