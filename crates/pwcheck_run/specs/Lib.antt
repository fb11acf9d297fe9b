pub mod Words
pub mod Answer
pub mod Check
pub mod Normalize
pub mod NormalState
pub mod Bench
pub mod BenchOutcome
pub mod Streams
