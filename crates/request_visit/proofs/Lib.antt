pub mod Accounting
pub mod Between
pub mod Chaining
pub mod Counted
pub mod Ended
pub mod Following
pub mod Going
pub mod Kept
pub mod Marking
pub mod Noting
mod Plain
pub mod Saying
pub mod Standing
pub mod Telling
pub mod Turning
mod Unkept
