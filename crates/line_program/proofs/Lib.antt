pub mod Told
pub mod RuleLaws
mod Running
mod Endings
pub mod LastTab
mod PlainLaws
pub mod PlainAnswers
