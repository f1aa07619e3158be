mod Joining
mod Reading
mod Markup
mod References
