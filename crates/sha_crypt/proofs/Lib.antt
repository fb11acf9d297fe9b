pub mod Decimals
pub mod Digests
mod Drawing
pub mod Faults
pub mod HashFields
mod Joined
pub mod MadeTexts
pub mod Numbers
mod PrintAnswers
pub mod Reading
pub mod Repeats
pub mod Rounds
pub mod Shapes
pub mod Spellings
mod Utf8
mod Vectors
