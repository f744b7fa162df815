pub use Rattle.gimli_core_base.proofs.Listings
pub use Rattle.gimli_core_base.proofs.NumberReadSizes
pub use Rattle.gimli_core_base.proofs.RefusedCalls
pub use Rattle.gimli_core_base.proofs.StepParts
pub use Rattle.gimli_core_base.proofs.StepSizes
pub use Rattle.gimli_core_base.proofs.Times
pub use Rattle.gimli_core_readers.proofs.ByteCountLemmas
pub use Rattle.gimli_core_readers.proofs.TilingLemmas
pub mod UnitHeaderLemmas
mod PartLemmas
pub mod ArangeSetLemmas
mod HeaderMemoryLemmas
mod PairSkipLemmas
