pub mod Fields
pub mod FirstBad
pub mod ReadExactly
pub mod Utf8
pub mod Within
