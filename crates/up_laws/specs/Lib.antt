pub mod Plans
pub mod Typed
pub mod Readings
pub mod Deliveries
