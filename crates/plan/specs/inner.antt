pub mod Nodes
pub mod Judged
pub mod Judging
pub mod Table
pub mod Numbers
pub mod Fields
pub mod Says
