pub mod Sheets
pub mod Cut
