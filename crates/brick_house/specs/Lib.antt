pub mod HouseLinks
pub mod Houses
pub mod InOrder
pub mod Tallies
