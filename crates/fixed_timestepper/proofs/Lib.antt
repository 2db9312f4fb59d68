pub mod Induction
pub mod Ending
pub mod Running
pub mod Updating
