pub mod Adding
pub mod Hearing
pub mod Tables
pub mod Writing
