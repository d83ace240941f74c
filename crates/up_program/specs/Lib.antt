pub mod Failures
pub mod Messages
pub mod Times
pub mod Files
pub mod Unopened
pub mod Versions
