mod Asked
pub mod Begun
mod Marked
mod ReadSending
mod Sending
mod WriteSending
