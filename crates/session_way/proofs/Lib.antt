mod Answered
mod Begun
mod Ending
pub mod GoingOn
pub mod Holders
mod Marked
mod PassesKept
mod Settled
