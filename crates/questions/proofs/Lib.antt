pub mod Lists
pub mod Parts
pub mod Asked
