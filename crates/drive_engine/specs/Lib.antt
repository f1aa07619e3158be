pub mod Exchange
pub mod Ending
pub mod Drive
pub mod Groups
pub mod Work
pub mod Words
pub mod Command
pub mod Play
