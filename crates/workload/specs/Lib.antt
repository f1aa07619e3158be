pub mod Choices
pub mod Parts
pub mod Summary
pub mod Tally
pub mod Turns
pub mod Working
