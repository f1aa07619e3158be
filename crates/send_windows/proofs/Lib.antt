mod Tallies
mod Keeping
mod Moving
pub mod Growing
