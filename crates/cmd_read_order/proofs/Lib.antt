pub mod Asking
pub mod Setting
pub mod Outcomes
pub mod Cut
