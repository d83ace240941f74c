pub mod Keys
pub mod Files
pub mod Writing
pub mod Signed
