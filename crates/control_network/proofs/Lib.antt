pub mod Bounds
pub mod Trails
pub mod Entries
pub mod Whole
pub mod Parts
