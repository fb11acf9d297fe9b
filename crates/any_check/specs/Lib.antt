pub mod Table
pub mod Numbers
pub mod Kinds
pub mod Cost
pub mod Records
pub mod Laws
pub mod Given
