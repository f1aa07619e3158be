pub mod Entering
pub mod Paths
pub mod UnderWay
pub mod Stopping
pub mod Lasting
pub mod Remembering
