pub mod Bits
pub mod Comparing
pub mod EqualNumbers
pub mod Options
pub mod Orderings
pub mod Smearing
