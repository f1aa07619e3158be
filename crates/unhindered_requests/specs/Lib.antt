pub mod Bricks
pub mod CallsLeft
pub mod StepsLeft
pub mod Tries
pub mod TriesLeft
pub mod Unhindered
