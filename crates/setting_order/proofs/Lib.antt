pub mod Numbering
pub mod Carrying
pub mod Front
