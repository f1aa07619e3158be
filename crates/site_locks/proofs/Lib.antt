mod Growing
mod Rebooting
mod Seeing
mod Stopping
