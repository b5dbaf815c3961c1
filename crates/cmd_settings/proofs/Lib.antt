pub mod Printing
pub mod Cut
pub mod Cases
