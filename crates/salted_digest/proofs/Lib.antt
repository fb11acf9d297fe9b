mod Vectors
pub mod Encoded
pub mod Digests
pub mod Texts
pub mod Answers
