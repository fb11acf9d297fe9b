pub mod Lanes
pub mod Zips
pub mod Pieces
