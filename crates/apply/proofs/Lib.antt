pub mod Whole
pub mod Outcome
