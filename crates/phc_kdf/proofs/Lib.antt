pub mod MadeRecords
pub mod RecordFields
