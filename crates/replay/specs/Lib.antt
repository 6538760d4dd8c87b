pub mod Replay
pub mod Recorded
pub mod inner
