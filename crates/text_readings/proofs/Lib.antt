mod CookieFields
pub mod CookieAnswers
mod HolderTests
mod Numbers
pub mod TokenAnswers
