pub mod Counts
pub mod Compile
pub mod inner
