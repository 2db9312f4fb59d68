pub mod Lists
pub mod Entries
pub mod Holding
pub mod Extending
pub mod Ranks
pub mod Applying
pub mod Calls
pub mod Ordered
pub mod Ledger
pub mod Soundness
pub mod Waiting
pub mod Quiet
pub mod Tidy
mod Shifting
mod Breaches
