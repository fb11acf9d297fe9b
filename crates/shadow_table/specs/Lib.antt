pub mod Fields
pub mod Strength
pub mod Rules
pub mod Plain
pub mod AnyTexts
pub mod AnyLaws
pub mod Laws
pub mod Words
