pub mod Asks
pub mod Lease
pub mod Marks
pub mod Reading
pub mod Runs
pub mod Way
pub mod Writing
