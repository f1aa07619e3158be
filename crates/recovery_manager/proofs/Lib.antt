pub mod Blaming
pub mod Hearing
pub mod Keeping
pub mod Widening
