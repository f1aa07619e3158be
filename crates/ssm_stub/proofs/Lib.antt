mod AllHeard
pub mod ByEvents
pub mod Concluding
mod CountedCauses
mod Counting
pub mod Distinct
pub mod HearingEnds
mod LawfulReplies
pub mod LinkTelling
mod LateStores
mod Lists
mod Marking
pub mod OwnEvents
mod PassByPass
pub mod Patience
pub mod Places
pub mod ReadEnding
pub mod ReadFacts
pub mod ReadOrder
pub mod ReadOutcomes
mod Running
pub mod Searching
pub mod Weights
pub mod WriteFacts
pub mod WriteOutcomes
pub mod Tests
pub mod Unasked
