pub mod Counts
pub mod Drawn
pub mod Forms
pub mod One
pub mod Orders
pub mod Refusals
pub mod Sessions
pub mod Shown
