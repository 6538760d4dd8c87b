pub mod Counted
pub mod NodeCounts
pub mod ArcCounts
