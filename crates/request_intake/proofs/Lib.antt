mod Admitting
mod Drawn
