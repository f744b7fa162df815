pub use Rattle.linemap_meaning.proofs.FilePathLemmas
pub use Rattle.addr2line_spec.proofs.CallChains
pub use Rattle.addr2line_spec.proofs.PairOrder
pub use Rattle.addr2line_spec.proofs.SeparateRanges
pub use Rattle.linemap_meaning.proofs.SoundUnits
pub use Rattle.linemap_meaning.proofs.StretchOrder
pub use Rattle.linemap_meaning.proofs.TableCallChains
pub use Rattle.linemap_meaning.proofs.TableRangeHolders
pub use Rattle.linemap_meaning.proofs.TableViewLemmas
pub mod AgreeingSequences
mod RowsBelow
pub mod UnitLocations
pub mod TableLocations
