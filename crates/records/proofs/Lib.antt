pub mod Records
pub mod Replies
pub mod Accepted
pub mod Refused
pub mod Made
