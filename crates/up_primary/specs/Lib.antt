pub mod Machine
pub mod Forging
pub mod Following
pub mod Laws
pub mod Histories
pub mod Fleets
