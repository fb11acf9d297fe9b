pub mod Rules
pub mod Outcome
pub mod Next
pub mod PlainOutput
