pub mod Entering
pub mod Drawn
pub mod Cut
