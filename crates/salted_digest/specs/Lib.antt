pub mod Digest
pub mod Text
pub mod Check
pub mod Views
pub mod Laws
