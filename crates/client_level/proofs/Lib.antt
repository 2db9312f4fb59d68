pub mod Levelling
pub mod Levels
