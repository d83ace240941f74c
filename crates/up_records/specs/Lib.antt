pub mod Catalogs
pub mod Standing
pub mod Connected
pub mod Reads
pub mod Senders
pub mod Sessions
