pub mod Tells
pub mod Determined
pub mod KnownTold
