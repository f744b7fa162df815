pub use Rattle.gimli_core_abbrev.proofs.PlaceLemmas
pub mod FinalFormLemmas
mod SkippingLemmas
pub mod RunLemmas
pub mod SkipAgreementLemmas
pub mod AfterLemmas
pub mod FormSizes
mod SpellingWidths
mod WayWidths
mod SkippingRuns
mod FixedRuns
