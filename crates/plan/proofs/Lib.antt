pub mod Chains
pub mod Numbers
pub mod Sections
pub mod Lawful
