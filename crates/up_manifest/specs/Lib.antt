pub mod Manifests
pub mod Meaning
pub mod Laws
pub mod Building
pub mod Bodies
pub mod Plain
