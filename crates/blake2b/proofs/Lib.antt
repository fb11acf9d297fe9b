pub mod Absorbing
pub mod Folding
mod Vectors
