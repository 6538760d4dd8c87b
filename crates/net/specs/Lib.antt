pub mod Tables
pub mod Check
pub mod Marking
pub mod Lent
pub mod Rows
pub mod inner
