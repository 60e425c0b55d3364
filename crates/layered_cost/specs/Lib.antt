pub mod Layers
pub mod Over
