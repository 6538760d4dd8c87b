pub mod EnabledTurns
pub mod ExitsHold
pub mod EnabledCall
pub mod Determined
pub mod CountedPart
pub mod KnownLists
