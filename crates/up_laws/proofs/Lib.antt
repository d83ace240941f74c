pub mod Plans
pub mod OwnPlans
pub mod StayingTyped
pub mod Digests
pub mod SmallFiles
pub mod ReadAgain
pub mod Delivered
