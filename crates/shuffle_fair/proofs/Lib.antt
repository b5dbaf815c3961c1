pub mod Fair
pub mod Words
pub mod Choosing
