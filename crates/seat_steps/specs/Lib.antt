pub mod Answering
pub mod Begins
pub mod Going
pub mod Gone
pub mod Replies
pub mod Seats
pub mod Stepped
pub mod Twinned
