pub mod Steps
pub mod Outcomes
pub mod Accepted
pub mod Fair
