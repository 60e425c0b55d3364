pub mod Sums
pub mod Network
pub mod Records
pub mod Theorems
pub mod Graphs
