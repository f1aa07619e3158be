pub mod Calls
pub mod Counts
pub mod Decisions
pub mod Drawing
pub mod Draws
