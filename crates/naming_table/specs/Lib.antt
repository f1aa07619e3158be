pub mod Binding
pub mod Names
pub mod Steps
