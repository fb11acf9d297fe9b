mod Answers
pub mod Fields
mod Vectors
