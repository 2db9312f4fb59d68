pub mod Lent
pub mod InPlace
