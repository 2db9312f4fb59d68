pub mod Rfc5905
pub mod Offset
pub mod Clock
