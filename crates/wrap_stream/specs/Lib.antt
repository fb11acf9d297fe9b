pub mod Front
pub mod Reading
pub mod Turns
pub mod Outcomes
pub mod Words
