pub use Rattle.gimli_core_base.proofs.LebStringLaws
pub use Rattle.gimli_core_base.proofs.LebStrings
pub use Rattle.gimli_core_base.proofs.Listings
pub use Rattle.gimli_core_base.proofs.NumberReadSizes
pub use Rattle.gimli_core_base.proofs.RefusedCalls
pub use Rattle.gimli_core_base.proofs.StepParts
pub use Rattle.gimli_core_base.proofs.StepSizes
pub use Rattle.gimli_core_base.proofs.Times
pub mod LebStringFits
pub mod ViewCuts
pub mod PlaceLemmas
mod Utf8Texts
mod EqualReaders
pub mod ByteCountLemmas
pub mod TilingLemmas
mod AddressSetLemmas
pub mod MemoryLemmas
pub mod Wrapping
