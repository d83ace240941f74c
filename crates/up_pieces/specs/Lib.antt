pub mod Prefixes
pub mod Pieces
