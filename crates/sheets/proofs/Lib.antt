pub mod Unpacking
pub mod Writing
pub mod Asking
pub mod Calls
pub mod Round
pub mod Setting
pub mod Cases
pub mod Cut
