pub mod Pairs
pub mod Bounds
