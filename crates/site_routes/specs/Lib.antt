pub mod Inserting
pub mod PathActions
pub mod Paths
pub mod Routes
