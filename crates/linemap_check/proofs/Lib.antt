pub use Rattle.linemap_meaning.proofs.SoundFits
mod NestedCallLemmas
mod PartLists
mod OverlapLemmas
mod DirectionLemmas
mod RangePassLemmas
mod RuleLemmas
