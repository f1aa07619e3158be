pub mod EqualRuns
pub mod Keeping
pub mod MoreSteps
pub mod Sums
pub mod Touching
mod Tracking
pub mod Repeating
