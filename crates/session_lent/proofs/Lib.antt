pub mod Laws
mod Keeping
mod Placing
