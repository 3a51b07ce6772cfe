pub mod Meaning
pub mod Simulated
pub mod Fresh
pub mod NetworkFits
