pub mod Rule
pub mod Table
pub mod DigitCount
pub mod Formula
pub mod Bounds
pub mod Most
pub mod Values
