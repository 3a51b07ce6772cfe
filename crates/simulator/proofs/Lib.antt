pub mod Standing
pub mod Rows
pub mod Walks
pub mod Changes
pub mod Places
pub mod Gathering
pub mod Cells
pub mod Newness
