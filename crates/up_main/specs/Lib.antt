pub mod Alike
pub mod Clients
pub mod Ends
