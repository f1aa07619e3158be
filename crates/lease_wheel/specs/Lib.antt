pub mod Leased
pub mod Lists
pub mod Wheels
