pub mod Crossing
pub mod Faithful
