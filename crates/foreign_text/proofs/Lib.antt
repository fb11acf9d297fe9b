mod Fours
mod Lengths
mod PaddedTexts
pub mod Records
pub mod Digested
pub mod Made
mod Spelled
pub mod Itself
