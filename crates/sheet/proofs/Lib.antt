pub mod Tables
mod Fronts
