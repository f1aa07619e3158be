pub mod Called
pub mod FewParts
pub mod Fitting
pub mod Heading
pub mod Listing
pub mod Numbering
mod SiteBricks
pub mod Stepping
pub mod Entering
