pub mod Limits
pub mod PlainLines
pub mod Escapes
