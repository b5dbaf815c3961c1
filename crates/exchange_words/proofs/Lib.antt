pub mod Written
pub mod Masked
pub mod Words
