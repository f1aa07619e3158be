pub mod Going
pub mod Site
pub mod Starting
pub mod Steps
