pub mod Lines
pub mod Runs
pub mod LineRuns
pub mod Together
pub mod Progress
