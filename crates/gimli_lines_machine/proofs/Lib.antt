pub use Rattle.gimli_core_readers.proofs.ByteCountLemmas
pub use Rattle.gimli_core_readers.proofs.Listings
pub use Rattle.gimli_core_readers.proofs.NumberReadSizes
pub use Rattle.gimli_core_readers.proofs.RefusedCalls
pub use Rattle.gimli_core_readers.proofs.StepParts
pub use Rattle.gimli_core_readers.proofs.Times
pub use Rattle.gimli_core_readers.proofs.Wrapping
mod MachineExamples
pub mod CutBytes
mod CutNumbers
pub mod CutInstructions
