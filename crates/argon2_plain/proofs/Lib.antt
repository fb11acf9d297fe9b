pub mod Pieces
pub mod Agreement
pub mod Lanes
pub mod Columns
pub mod Places
pub mod Steps
pub mod Hashing
pub mod Plans
pub mod Keys
mod Vectors
