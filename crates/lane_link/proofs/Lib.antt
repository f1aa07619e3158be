pub mod Beginning
mod Twinning
