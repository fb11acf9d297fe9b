pub mod Limits
pub mod Settings
pub mod Texts
pub mod NewSettings
pub mod Checks
pub mod Views
