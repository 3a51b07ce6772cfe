pub mod Orders
pub mod Feeding
pub mod Passes
