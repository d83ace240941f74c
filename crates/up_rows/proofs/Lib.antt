pub mod Tables
mod Numbered
pub mod Told
mod Found
pub mod Files
mod Repositories
pub mod Vehicles
mod Replacements
mod Fitting
mod SecondHashes
