pub mod Decimal
pub mod Signed
pub mod Lines
pub mod Written
