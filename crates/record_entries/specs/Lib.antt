pub mod Entries
pub mod Fillings
