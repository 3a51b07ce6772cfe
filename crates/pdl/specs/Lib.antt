pub mod Text
pub mod Parse
