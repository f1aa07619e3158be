pub mod Claims
pub mod Facts
pub mod Logged
pub mod Nonces
pub mod Sound
pub mod Traces
pub mod Worlds
