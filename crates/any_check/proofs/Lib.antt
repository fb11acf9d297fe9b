pub mod Families
pub mod Rows
pub mod Causes
mod Taken
pub mod Known
mod Bound
mod Valid
mod RecordNames
mod CryptLanes
mod Md5Fields
mod Md5Parts
