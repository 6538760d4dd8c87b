pub mod Counted
pub mod Puts
