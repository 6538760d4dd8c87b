pub mod Reading
pub mod Loops
pub mod Bytes
pub mod inner
