pub mod State
pub mod Making
pub mod Publications
pub mod Repositories
pub mod Trusted
pub mod Laws
