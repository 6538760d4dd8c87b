pub mod Fine
pub mod OnANet
