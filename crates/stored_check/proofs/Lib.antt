pub mod Causes
mod ComparedFields
mod Counted
pub mod MadeTexts
pub mod FamilyTexts
mod NamedFaults
pub mod Normals
pub mod Records
mod Vectors
pub mod Walk
