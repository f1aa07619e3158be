mod Acknowledging
mod Between
mod Bricks
pub mod ByRule
mod Calls
mod Cookies
mod Ended
pub mod Expecting
mod HeardPasses
mod Holders
mod KeptCookies
pub mod LanesKept
mod LaneLines
pub mod Leading
mod LentGone
mod LineKeeps
mod Lines
mod Nonces
mod OneLine
mod Origins
mod Outcomes
mod Padding
pub mod Presented
mod Promised
mod ReadLists
mod Replies
mod Serving
mod Settled
mod SettledWrites
mod TurnsMade
mod Went
mod WriteLines
mod Written
