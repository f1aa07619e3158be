pub mod History
pub mod Container
pub mod Start
