mod Growing
mod Items
mod Joining
mod Meanings
mod Reaching
mod Showing
