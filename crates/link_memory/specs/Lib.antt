pub mod InOrder
pub mod Lane
pub mod Leaving
pub mod Rule
pub mod Script
pub mod Settling
pub mod Standing
pub mod Tallies
