pub use Rattle.gimli_units_headers.proofs.ArangeSetLemmas
pub use Rattle.gimli_units_headers.proofs.TilingLemmas
pub use Rattle.gimli_units_headers.proofs.UnitHeaderLemmas
mod NumberedItems
mod Unfoldings
mod TableLoops
mod CheckSteps
mod TextChecks
mod EntryChecks
mod HeaderChecks
pub mod TextSizes
mod ParserChains
mod HeaderCopies
mod FieldSizes
mod FieldValues
mod TableSizes
mod UsualEntries
mod HeaderPlaces
