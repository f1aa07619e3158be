pub mod Assembly
pub mod Description
pub mod Keys
pub mod Names
pub mod Refusals
pub mod Text
