pub mod Parts
pub mod Orders
pub mod Duality
pub mod Supplies
pub mod Bare
pub mod Outcomes
