pub mod Transitions
pub mod Net
pub mod Says
pub mod inner
