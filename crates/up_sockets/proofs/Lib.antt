pub mod Apart
pub mod Joined
pub mod Pieces
pub mod Told
