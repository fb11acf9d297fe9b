mod Forms
mod Judging
mod PlainTable
mod Plainness
mod Putting
mod Surveying
