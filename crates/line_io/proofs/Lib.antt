pub mod LineLaws
pub mod Moved
pub mod BufferLaws
pub mod Runs
mod LineVectors
pub mod FeedSearch
pub mod Gathering
