pub use Rattle.linemap_check.proofs.SoundFits
mod TargetSizes
mod JsonLemmas
mod JsonShapeLemmas
mod JsonListLemmas
mod JsonReading
mod PartListLemmas
