pub mod Past
pub mod OrderAt
pub mod Dictionary
pub mod Listed
pub mod Digits
pub mod Writing
