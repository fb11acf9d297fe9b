pub mod Rounds
pub mod Steps
mod FirstBytes
pub mod Measured
mod Vectors
pub mod Fields
pub mod MadeTexts
pub mod ReadTexts
