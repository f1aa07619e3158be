pub mod Calls
pub mod Counts
pub mod Ends
pub mod Lane
pub mod Lanes
pub mod Lent
pub mod Sound
pub mod Steps
