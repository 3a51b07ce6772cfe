pub mod Order
pub mod Plans
pub mod Length
