pub mod Laws
pub mod Store
pub mod Stored
pub mod Staged
pub mod Run
pub mod Progress
