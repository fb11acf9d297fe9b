pub mod Ascii
pub mod Built
pub mod Pushed
pub mod ValidTexts
mod Bodies
mod CleanFields
mod FieldBytes
mod GoodLanes
mod Vectors
