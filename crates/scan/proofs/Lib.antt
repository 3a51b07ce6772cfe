pub mod Rows
pub mod Fill
pub mod Sizes
pub mod Queue
pub mod Depths
pub mod Walk
pub mod Changing
