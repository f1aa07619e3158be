mod Ended
mod Pieces
mod Rest
mod Spelled
mod Crossing
mod Telling
