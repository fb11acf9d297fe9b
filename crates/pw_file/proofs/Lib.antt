pub mod Cuts
pub mod Content
pub mod Calls
pub mod Own
pub mod Distinct
pub mod GoodRows
pub mod Listed
pub mod Entries
pub mod LineAnswers
pub mod TableAnswers
pub mod Output
pub mod Removing
pub mod Replacing
pub mod Seen
mod StoredVerdicts
mod Vectors
