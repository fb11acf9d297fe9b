pub mod Keys
pub mod Text
pub mod Check
pub mod Views
pub mod Laws
