pub mod Lowest
pub mod Settling
pub mod Held
