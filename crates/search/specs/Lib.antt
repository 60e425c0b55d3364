pub mod Turns
pub mod Prices
pub mod Drawn
pub mod Spans
pub mod Networks
pub mod Searches
pub mod Settled
