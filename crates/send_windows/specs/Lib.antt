pub mod Calls
pub mod Facts
pub mod History
pub mod Passes
pub mod Windows
