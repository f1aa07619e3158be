mod Added
mod Beginning
pub mod Crossing
mod Drawn
mod Full
mod Growing
mod Heeding
mod Kept
mod Leaving
mod Marked
mod Moving
mod Reading
mod Refusing
mod Responding
mod Seen
mod Turned
