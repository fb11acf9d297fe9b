pub mod Crash
pub mod DoneCalls
mod Ends
mod Kept
pub mod LogLines
pub mod Moments
mod Parsed
mod Taking
mod Walking
