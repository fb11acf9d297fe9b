pub mod Blocks
mod Keys
mod Putting
mod Vectors
