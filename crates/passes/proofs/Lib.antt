pub mod Along
pub mod Passing
