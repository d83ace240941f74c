pub mod Decided
pub mod Rising
pub mod Brought
pub mod Todays
pub mod Staying
pub mod Holding
