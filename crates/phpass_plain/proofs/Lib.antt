mod Vectors
pub mod Turns
pub mod Costs
pub mod Texts
pub mod Answers
