pub mod Counted
pub mod Enveloped
pub mod Roles
