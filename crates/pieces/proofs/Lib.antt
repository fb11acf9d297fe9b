pub mod ByteTests
pub mod Cuts
pub mod FaultLaws
pub mod Fronts
pub mod ListLaws
pub mod NumberBytes
pub mod PlainNumbers
pub mod RisenCounts
mod Vectors
mod Ascii
mod LastPlaces
mod MarkLaws
mod PlaceLaws
mod ZeroedCells
