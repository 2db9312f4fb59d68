pub mod Fractions
pub mod Bounds
pub mod Laws
