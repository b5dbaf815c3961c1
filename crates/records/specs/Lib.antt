pub mod Records
pub mod Made
