pub mod Verifiers
pub mod Roots
pub mod Files
pub mod Verify
pub mod Results
