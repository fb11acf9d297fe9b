pub mod Parts
pub mod Handed
pub mod Converting
pub mod Makers
pub mod Rules
pub mod Views
pub mod Runs
pub mod Laws
