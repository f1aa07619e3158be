pub mod Closing
pub mod Ending
pub mod Heeding
pub mod Refusing
pub mod Seats
pub mod Serving
pub mod Stands
pub mod Turning
