pub mod Export
pub mod Laws
pub mod Statuses
