mod Vectors
pub mod Rounds
pub mod Fields
pub mod Texts
pub mod Answers
