pub mod Hmac
pub mod Cookie
pub mod Text
pub mod Reading
pub mod Token
