pub mod Leasts
pub mod Unsupported
pub mod Judgements
pub mod Cells
pub mod Counting
pub mod Rows
pub mod Rules
