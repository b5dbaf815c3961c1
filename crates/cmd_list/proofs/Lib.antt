pub mod Asking
pub mod Order
pub mod Printing
pub mod Lines
pub mod Cases
