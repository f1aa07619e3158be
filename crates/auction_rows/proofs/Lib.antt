pub mod AnyRow
pub mod Exact
pub mod ExactFields
pub mod ExactRows
pub mod RowBytes
pub mod RowFields
pub mod Sizes
pub mod Values
