pub mod Marks
pub mod Switches
pub mod Logged
