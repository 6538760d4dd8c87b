pub mod Limits
pub mod Refusals
pub mod Answer
pub mod Field
pub mod Lists
pub mod Says
