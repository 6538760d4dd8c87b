pub mod Positions
pub mod Moves
pub mod Spreads
pub mod Nodes
pub mod Merge
