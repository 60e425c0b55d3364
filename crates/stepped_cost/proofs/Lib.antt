pub mod Falling
pub mod Fitting
pub mod Summing
