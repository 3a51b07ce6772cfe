pub mod Highest
pub mod Over
