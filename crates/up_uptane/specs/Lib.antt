pub mod Deliveries
pub mod Versions
pub mod Offers
pub mod Rotations
pub mod Fitting
pub mod Verifying
