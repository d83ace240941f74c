pub mod Steps
pub mod Checking
pub mod Verifying
pub mod PlainTexts
pub mod PlainFiles
