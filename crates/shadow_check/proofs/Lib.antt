mod KnownAnswers
mod OfUsers
mod OfJoins
pub mod TwoFiles
mod Runs
mod OfNoTexts
mod Alike
