pub mod Sides
pub mod Words
pub mod Tape
