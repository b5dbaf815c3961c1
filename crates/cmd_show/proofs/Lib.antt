pub mod Spacing
pub mod Showing
pub mod Cut
