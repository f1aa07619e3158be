pub mod Scores
pub mod Top
