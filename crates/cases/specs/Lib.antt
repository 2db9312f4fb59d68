pub mod Table
pub mod Example
