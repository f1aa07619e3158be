pub mod Intakes
