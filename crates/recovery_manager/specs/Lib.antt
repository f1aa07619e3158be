pub mod Decisions
pub mod Events
pub mod Kept
pub mod Levels
pub mod Telling
