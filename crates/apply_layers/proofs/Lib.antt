pub mod Blocks
pub mod Halved
pub mod Lending
pub mod Network
pub mod Parts
pub mod Packing
pub mod Runs
