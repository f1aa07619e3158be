pub mod CookieTexts
pub mod TokenTexts
