pub use Rattle.gimli_core_readers.proofs.NumberReadSizes
pub use Rattle.gimli_core_readers.proofs.PlaceLemmas
pub use Rattle.gimli_core_readers.proofs.StepParts
pub use Rattle.gimli_core_readers.proofs.StepSizes
pub use Rattle.gimli_core_readers.proofs.ViewCuts
mod DeclarationSizes
mod TableCollection
mod ParsedDeclarations
mod ExactRefusals
mod ImplicitConstants
mod ShortAttributes
mod ShortRuns
mod SkippedAttributes
mod SkippedDeclarations
mod DeclarationPlaces
mod StoredDeclarations
mod RepeatedOffsets
mod RisingCodes
mod TableRoom
mod AppendedBytes
mod DeclarationMoves
mod TableTails
mod SectionEnds
mod TableEndExamples
mod RunsInOrder
mod FoundDeclarations
mod KeptDeclarations
mod CacheMaps
mod OtherTables
mod CachedTables
pub mod WidthSums
mod CountedPrefixes
mod ReadFacts
mod AddedAttributes
mod FormRows
mod PackedSums
