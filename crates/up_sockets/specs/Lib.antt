pub mod Apart
pub mod Groups
pub mod Served
