pub mod TimeKeeper
pub mod Inner
