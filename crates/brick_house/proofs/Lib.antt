pub mod Asked
pub mod Counting
pub mod Houses
pub mod InOrder
