pub mod Packed
pub mod Kinds
