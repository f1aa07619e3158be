mod Accessed
mod Entered
mod Exact
mod Following
mod Once
mod Sampled
mod Samples
mod Tables
