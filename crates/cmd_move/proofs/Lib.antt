pub mod Moving
pub mod Cut
