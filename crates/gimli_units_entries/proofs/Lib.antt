pub use Rattle.gimli_core_base.proofs.Listings
pub use Rattle.gimli_core_base.proofs.RefusedCalls
pub use Rattle.gimli_core_base.proofs.StepParts
pub use Rattle.gimli_core_base.proofs.StepSizes
pub use Rattle.gimli_units_headers.proofs.TilingLemmas
pub use Rattle.gimli_units_headers.proofs.UnitHeaderLemmas
mod WalkLemmas
mod AttributeListLemmas
mod EntryLemmas
pub mod RowParts
pub mod RowLaws
mod OffsetLookupLemmas
mod ChoiceLemmas
pub mod RowSteps
mod AttributePushLemmas
mod EntryReads
pub mod OtherEntryLemmas
mod SureWidthLemmas
pub mod NamedAttributeLemmas
mod PassedAttributeLemmas
