pub mod InOrder
pub mod Moving
pub mod Moves
