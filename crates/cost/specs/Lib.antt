pub mod Meaning
pub mod Places
pub mod Limits
pub mod Refusals
pub mod Rows
