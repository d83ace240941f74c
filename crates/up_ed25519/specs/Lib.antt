pub mod Lawful
pub mod Ready
pub mod Scheme
pub mod Shows
