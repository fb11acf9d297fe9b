mod Walk
pub mod Causes
mod Costly
mod Vectors
