mod Answering
pub mod GivenUp
pub mod Going
mod Handing
pub mod Heard
pub mod Keeping
mod Leaving
pub mod Making
pub mod MoreReplies
mod NoRuns
pub mod OneSeat
pub mod Outs
mod Placing
pub mod RunSteps
mod Saying
pub mod SeatSteps
pub mod Taken
mod LinesAnswer
