pub use Rattle.gimli_core_readers.proofs.ByteCountLemmas
pub use Rattle.gimli_core_readers.proofs.Wrapping
mod RawListSteps
mod RangeEntrySizes
pub mod RawRanges
mod ListBaseLemmas
mod FieldMemoryLemmas
mod ListEntryMemoryLemmas
mod ListTableMemoryLemmas
mod ListSteps
pub mod RangeSteps
mod LocationEntrySizes
mod LocationEntryPlaces
mod ListCounts
mod ListRefusals
mod ProgressLemmas
mod EntryReads
mod Tombstones
mod ListExamples
