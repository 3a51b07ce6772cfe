pub mod Network
pub mod Path
pub mod Moves
pub mod Calls
pub mod Laws
