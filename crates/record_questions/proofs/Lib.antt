pub mod Questions
pub mod Counting
