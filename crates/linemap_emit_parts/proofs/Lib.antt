pub use Rattle.gimli_lines_header.proofs.ArangeSetLemmas
pub use Rattle.gimli_lines_header.proofs.TilingLemmas
pub use Rattle.gimli_lines_write_bytes.proofs.FollowedReads
pub use Rattle.gimli_units_entries.proofs.RowLaws
pub mod ValuesRead
mod EntryAttributesRead
pub mod DeclarationsRead
pub mod EntryRowsRead
pub mod EntryListsRead
pub mod UnitsRead
mod AppendedWrites
pub mod EmittedRangesRead
