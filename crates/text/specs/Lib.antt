pub mod Fields
pub mod Steps
pub mod Walks
pub mod Writing
pub mod Theorems
pub mod Cases
