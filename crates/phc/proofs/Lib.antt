pub mod NameLemmas
pub mod Characters
pub mod PairTexts
pub mod LayoutFaults
mod FieldFaults
pub mod BytesLemmas
pub mod Joining
pub mod Printed
pub mod ParsedBack
pub mod Readable
mod Vectors
pub mod EncodedBytes
pub mod TextParts
pub mod ValueBytes
pub mod ValueFaults
pub mod PairLemmas
pub mod ParamsLemmas
mod PartVectors
