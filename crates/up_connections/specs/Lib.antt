pub mod Moments
pub mod Lines
pub mod Hubs
