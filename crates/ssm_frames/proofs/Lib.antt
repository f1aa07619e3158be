pub mod ExactFields
pub mod ExactFrames
pub mod Short
