pub mod Names
pub mod FireAnswers
pub mod FireCall
pub mod KnownRefusals
pub mod Determined
pub mod CountedPart
pub mod KnownFirings
