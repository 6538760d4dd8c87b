pub mod Fire
pub mod inner
