pub mod Questions
pub mod Buffers
pub mod Putting
pub mod Outcomes
pub mod Results
pub mod Sweeps
