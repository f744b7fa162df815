pub use Rattle.addr2line_spec.proofs.CallChains
pub use Rattle.addr2line_spec.proofs.EntryLevels
pub use Rattle.addr2line_spec.proofs.PendingLoads
pub use Rattle.addr2line_spec.proofs.RangeHolders
pub mod UnitAnswers
mod PartialLineRows
pub mod StableOrder
mod SharedRangeLemmas
mod NumberedRangeLemmas
pub mod UnitViews
mod StretchLemmas
mod SortedOrder
mod SortedLast
mod RangeLevelLemmas
mod RowIndexLemmas
pub mod HolderViews
mod BoundedRangeLemmas
mod SequenceOrderLemmas
mod SequenceWalks
mod SequenceViews
