pub mod Spelling
pub mod Bounds
pub mod Reading
pub mod Ids
pub mod Session
pub mod Parts
