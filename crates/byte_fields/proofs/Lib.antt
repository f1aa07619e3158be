pub mod Exact
pub mod ExactFields
pub mod FieldBytes
pub mod MadeFields
