pub mod FrontRows
pub mod Judges
pub mod Drawings
pub mod FinePlans
