pub mod Errands
pub mod Pages
pub mod Touched
