pub mod Mean
pub mod Order
