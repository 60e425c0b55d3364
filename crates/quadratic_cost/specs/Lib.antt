pub mod Quadratic
pub mod Squares
