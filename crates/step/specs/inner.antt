pub mod Naming
pub mod Walks
pub mod Reads
