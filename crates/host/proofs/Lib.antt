pub mod Answers
pub mod Chunks
