pub mod Lanes
pub mod Tallies
