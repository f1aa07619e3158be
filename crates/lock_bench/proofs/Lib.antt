pub mod Empty
pub mod Hiring
