pub use Rattle.gimli_dwarf_spec.proofs.RefusedCalls
mod CachedTables
mod CachedFaults
pub mod LastAttributes
mod OffsetCallLemmas
mod SectionCalls
mod RootLemmas
mod RootDeclarations
mod RootValueSteps
mod UnitSteps
mod BareUnitSteps
mod WholeParts
