pub mod Showing
pub mod Telling
pub mod Displaying
