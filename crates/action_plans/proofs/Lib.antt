pub mod Accessing
pub mod Counting
pub mod Driving
pub mod Ending
pub mod Entering
pub mod Fixing
pub mod Leaving
pub mod Walking
