pub mod Dollars
mod Rounds
mod Cleared
mod Counts
mod SaltBytes
mod Groups
