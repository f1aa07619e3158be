pub mod Crossing
pub mod Running
pub mod Telling
pub mod Using
