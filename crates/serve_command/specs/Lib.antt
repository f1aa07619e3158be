pub mod Ending
pub mod Keys
pub mod LastLine
pub mod Opening
pub mod Reasons
pub mod Serving
pub mod Words
