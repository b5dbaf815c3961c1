pub mod Rows
pub mod Reading
pub mod Writing
pub mod Reach
