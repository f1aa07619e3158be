pub mod Ticket
pub mod Within
pub mod Access
pub mod Runs
pub mod Following
pub mod Repeated
