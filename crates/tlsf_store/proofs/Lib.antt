mod Chains
mod Heads
mod PackedVectors
pub mod RecordLaws
mod TableLaws
mod TableMaking
mod TableViews
mod WordVectors
