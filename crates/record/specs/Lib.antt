pub mod Faults
pub mod Readings
pub mod Outcomes
pub mod Texts
pub mod Outlines
pub mod Theorems
