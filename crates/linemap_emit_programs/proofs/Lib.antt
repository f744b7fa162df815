pub use Rattle.linemap_emit_rows.proofs.RowLaws
pub use Rattle.linemap_emit_rows.proofs.EntryListsRead
pub use Rattle.linemap_emit_rows.proofs.Wrapping
pub use Rattle.linemap_emit_rows.proofs.ArangeSetLemmas
pub use Rattle.linemap_emit_rows.proofs.TilingLemmas
pub use Rattle.linemap_emit_rows.proofs.DeclarationsRead
pub use Rattle.linemap_emit_rows.proofs.EmittedRangesRead
pub use Rattle.linemap_emit_rows.proofs.EntryRowsRead
pub use Rattle.linemap_emit_rows.proofs.FollowedReads
pub use Rattle.linemap_emit_rows.proofs.UnitsRead
pub use Rattle.linemap_emit_rows.proofs.ValuesRead
pub use Rattle.linemap_emit_rows.proofs.SoundUnits
pub use Rattle.linemap_emit_rows.proofs.TableViewLemmas
pub use Rattle.linemap_emit_rows.proofs.TableLocations
pub use Rattle.linemap_emit_rows.proofs.EmittedRowsShown
pub use Rattle.linemap_emit_rows.proofs.EmittedRowsBuilt
pub use Rattle.linemap_emit_rows.proofs.SoundSequenceLemmas
mod HeaderTextLemmas
pub mod BuiltUnits
mod ListPlaces
pub mod SoundFiles
pub mod PlacedFiles
pub mod EmittedFileTexts
pub mod UnitProgramsRead
mod WrittenPrograms
pub mod AddedFiles
mod WholeSequences
