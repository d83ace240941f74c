pub mod Tables
pub mod StateRows
pub mod SecondHashes
pub mod Lookups
pub mod Changes
pub mod Laws
pub mod Fitting
