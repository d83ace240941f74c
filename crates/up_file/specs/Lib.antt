pub mod Adopting
pub mod Causes
pub mod Closing
pub mod LatestRoot
pub mod NewFiles
pub mod Opening
pub mod Schemes
