pub mod Rule
pub mod Obeys
pub mod Carry
