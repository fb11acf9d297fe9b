mod Digests
pub mod Keys
