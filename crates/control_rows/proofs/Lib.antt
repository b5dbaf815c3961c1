pub mod Rows
pub mod Counting
