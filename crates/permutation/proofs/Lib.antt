pub mod Sweeps
pub mod Permutations
pub mod Pigeons
pub mod Tables
pub mod Inverses
pub mod Laws
pub mod Counts
