pub mod Attributing
pub mod Counting
pub mod Following
pub mod Holding
pub mod Served
