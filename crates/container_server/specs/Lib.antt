pub mod Planning
pub mod Running
pub mod Seats
pub mod Telling
