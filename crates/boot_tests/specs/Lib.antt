pub mod Notes
pub mod Stamps
