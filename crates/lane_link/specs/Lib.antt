pub mod Links
pub mod Tallies
pub mod Twins
pub mod Wanting
