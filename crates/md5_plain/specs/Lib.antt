pub mod Digest
pub mod Field
pub mod Verdict
pub mod Laws
pub mod Views
