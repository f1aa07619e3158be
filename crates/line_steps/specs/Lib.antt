pub mod Tables
pub mod Texts
pub mod Head
pub mod CallLines
pub mod Callers
