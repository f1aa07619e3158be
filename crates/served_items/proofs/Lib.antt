mod Arriving
mod Carrying
mod Following
mod Numbered
mod Placing
mod Reaching
mod Rising
pub mod Serving
mod Shown
pub mod Stepping
pub mod Taking
mod Tallying
mod Turning
mod Unchanged
