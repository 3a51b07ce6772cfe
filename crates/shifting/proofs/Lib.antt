pub mod Midway
pub mod Rows
pub mod Sibs
pub mod Walking
