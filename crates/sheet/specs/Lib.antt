pub mod Sheets
pub mod Drafts
