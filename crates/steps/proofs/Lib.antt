pub mod Cases
pub mod Places
pub mod Lookup
pub mod Running
pub mod Positions
pub mod Lengths
pub mod Sweeps
