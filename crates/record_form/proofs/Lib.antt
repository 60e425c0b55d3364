pub mod Sequences
pub mod Wording
pub mod Back
