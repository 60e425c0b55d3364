pub mod Spans
pub mod Sets
pub mod Within
pub mod Labels
pub mod Near
pub mod Queues
pub mod Surpluses
