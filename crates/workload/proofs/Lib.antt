mod Commits
mod Committing
mod Counting
mod Going
mod Inside
mod Rebooting
mod Stepped
pub mod Running
mod Turning
