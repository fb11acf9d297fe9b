pub mod Text
pub mod Views
pub mod Check
pub mod Laws
