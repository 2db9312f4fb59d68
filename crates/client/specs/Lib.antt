pub mod Ledgers
pub mod Sides
pub mod Status
