pub mod Sweeps
pub mod State
pub mod Steps
pub mod Sequence
pub mod Run
pub mod ByLookup
pub mod Fold
pub mod Setting
