mod Kept
mod Shown
mod Noticing
mod Passed
mod Sources
mod Lines
pub mod Placed
