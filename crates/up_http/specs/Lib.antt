pub mod Requests
pub mod Feeding
pub mod Parts
pub mod Talks
pub mod Serving
pub mod Steps
