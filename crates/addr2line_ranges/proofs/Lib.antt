pub use Rattle.addr2line_index.proofs.UnitAnswers
pub use Rattle.addr2line_index.proofs.UnitViews
pub use Rattle.addr2line_index.proofs.CallChains
pub use Rattle.addr2line_index.proofs.EntryLevels
pub use Rattle.addr2line_index.proofs.PendingLoads
pub use Rattle.addr2line_index.proofs.HolderViews
pub use Rattle.addr2line_index.proofs.RangeHolders
pub use Rattle.gimli_dwarf.proofs.LastAttributes
pub mod UnitRangeLemmas
mod LastFactLemmas
pub mod LastValueStep
mod ArangeIndexLemmas
