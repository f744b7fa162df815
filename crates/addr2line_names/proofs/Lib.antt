pub use Rattle.gimli_dwarf.proofs.LastAttributes
mod LastUnitBelow
pub mod NameSteps
mod ReferenceChains
mod NamingSteps
mod PassedSteps
mod FunctionNameLemmas
mod UnitOffsetLemmas
mod SectionEntries
