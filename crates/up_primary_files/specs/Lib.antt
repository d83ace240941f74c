-- What the files of a Primary say, and what is told of a verdict.
pub mod Manifests
pub mod Verdicts
pub mod States
pub mod Served
pub mod Written
pub mod Rounds
