pub mod KeptOrder
mod Keeping
mod Leases
mod Limits
mod Putting
pub mod Standing
mod Sweeping
mod Tying
