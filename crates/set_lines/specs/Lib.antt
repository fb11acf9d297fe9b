pub mod Sets
pub mod Rests
pub mod Steps
pub mod Views
pub mod Laws
