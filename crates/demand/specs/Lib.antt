pub mod Events
pub mod Calls
pub mod Demand
