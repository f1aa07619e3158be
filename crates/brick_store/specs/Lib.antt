pub mod Bricks
pub mod History
pub mod Kept
pub mod Pairs
pub mod Puts
pub mod Standing
pub mod Tied
