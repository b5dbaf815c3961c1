pub mod Words
pub mod Choosing
pub mod Fair
