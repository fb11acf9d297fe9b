pub mod Costs
pub mod Records
pub mod Names
pub mod Made
pub mod Laws
pub mod Line
