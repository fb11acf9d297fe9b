mod Vectors
pub mod Encoded
pub mod KeyBytes
pub mod Texts
pub mod Answers
