pub mod Enabled
pub mod Says
