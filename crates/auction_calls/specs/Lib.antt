pub mod Calls
pub mod BadFields
pub mod Reading
pub mod Texts
