pub mod Amount
pub mod FirstPlace
pub mod Lists
pub mod Refusing
pub mod Room
pub mod Brief
