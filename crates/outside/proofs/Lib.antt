pub mod Prefixes
pub mod Telling
pub mod PlaceOrder
pub mod Placing
pub mod FailedCalls
pub mod Counting
pub mod Drawing
