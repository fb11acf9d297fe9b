pub mod Fields
pub mod Passwords
pub mod Loads
pub mod LoadRules
pub mod Wanted
pub mod WantedRules
