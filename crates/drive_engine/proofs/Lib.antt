pub mod Breaking
pub mod Calling
pub mod Coming
pub mod Deciding
pub mod Reporting
pub mod Working
