pub mod Exact
pub mod ExactActions
pub mod ExactCalls
pub mod ExactFields
pub mod FirstBad
pub mod Names
