pub mod Judged
pub mod Ready
pub mod Judging
