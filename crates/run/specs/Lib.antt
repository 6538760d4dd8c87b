pub mod Run
pub mod Says
pub mod inner
