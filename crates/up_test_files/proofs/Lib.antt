pub mod Bracketed
