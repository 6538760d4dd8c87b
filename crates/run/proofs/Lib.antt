pub mod StepsTaken
pub mod RunsOn
pub mod RunEnds
pub mod Determined
pub mod KnownVerdicts
pub mod TheOneRun
