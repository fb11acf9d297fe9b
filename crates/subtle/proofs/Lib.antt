pub mod BitLemmas
pub mod Calls
pub mod GreaterSteps
pub mod Masking
pub mod Places
pub mod Selecting
pub mod SignBits
mod Vectors
