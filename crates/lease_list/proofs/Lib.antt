pub mod Crosses
pub mod Facts
pub mod Joins
pub mod Memory
mod Names
pub mod Sharing
