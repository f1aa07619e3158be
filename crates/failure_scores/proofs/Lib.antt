pub mod Best
pub mod Counting
