pub mod Adding
pub mod Finding
pub mod Order
pub mod Popping
