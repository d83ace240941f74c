pub mod ReadAgain
pub mod Whole
pub mod Standing
