pub mod Order
pub mod Place
