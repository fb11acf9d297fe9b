pub mod Limits
pub mod Attributes
pub mod Entries
pub mod Ldif
pub mod Rests
pub mod Steps
pub mod Views
