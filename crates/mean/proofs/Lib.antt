pub mod Lists
pub mod Means
pub mod Sort
pub mod Zeros
