pub mod Lists
pub mod Entries
pub mod Buffer
pub mod Soundness
pub mod Slots
pub mod Ranks
