pub mod Shapes
pub mod Wants
pub mod Strings
pub mod Runs
pub mod Laws
pub mod Cases
