pub mod Induction
pub mod Framing
pub mod Catching
