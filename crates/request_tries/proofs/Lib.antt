mod Trying
mod Ending
mod Committing
mod Serving
mod Answering
mod Once
mod Early
pub mod Unhindered
