pub mod Walk
pub mod Spread
pub mod Numbers
