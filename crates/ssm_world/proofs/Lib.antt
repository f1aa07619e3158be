mod Answering
pub mod Askable
pub mod Asks
pub mod CallAsks
mod Changing
pub mod Ending
pub mod Growing
pub mod Hearing
pub mod Histories
pub mod Holding
pub mod Keeping
pub mod Lawful
pub mod Lists
mod Logging
pub mod Making
pub mod Missing
mod NewNonces
mod Nonces
pub mod Numbering
mod Origins
mod Positions
mod Refusing
pub mod Replying
mod Scenes
mod Sending
pub mod Steps
pub mod Tests
mod Tracing
