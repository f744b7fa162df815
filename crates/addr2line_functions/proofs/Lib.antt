pub use Rattle.gimli_units_entries.proofs.TilingLemmas
pub use Rattle.gimli_units_entries.proofs.UnitHeaderLemmas
pub use Rattle.addr2line_ranges.proofs.UnitAnswers
pub use Rattle.addr2line_ranges.proofs.UnitViews
pub use Rattle.addr2line_ranges.proofs.EntryLevels
pub use Rattle.addr2line_ranges.proofs.PendingLoads
pub mod RangeNumbers
mod PairNumbers
mod OtherEntrySteps
mod FunctionEntrySteps
mod NestingLemmas
pub mod CallEntrySteps
mod OtherCallSteps
mod NameFolds
mod RangeAttributes
mod NextFunctionSteps
mod CallFactSteps
mod ChainSteps
pub mod NumberedCalls
mod UnsignedValues
mod FunctionRowSteps
mod FrameLists
mod ChainProbes
mod MadeValues
