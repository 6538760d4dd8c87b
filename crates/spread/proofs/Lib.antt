pub mod OperandRows
pub mod OperandsPut
pub mod Walks
pub mod Passes
pub mod ToldRows
pub mod ActionTag
