pub mod Alike
pub mod Answered
pub mod Clients
pub mod Groups
