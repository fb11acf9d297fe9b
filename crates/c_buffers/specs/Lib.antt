pub mod Statuses
pub mod Put
