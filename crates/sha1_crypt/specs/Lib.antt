pub mod Digest
pub mod Field
pub mod Text
pub mod Check
pub mod Views
pub mod Laws
