pub mod FrontTexts
pub mod Answers
mod MadeTexts
mod Vectors
