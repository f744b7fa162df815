pub use Rattle.linemap_emit_programs.proofs.AddedFiles
pub use Rattle.linemap_emit_programs.proofs.BuiltUnits
pub use Rattle.linemap_emit_programs.proofs.PlacedFiles
pub use Rattle.linemap_emit_programs.proofs.SoundFiles
pub use Rattle.linemap_emit_programs.proofs.UnitProgramsRead
pub use Rattle.gimli_lines_write_tables.proofs.Listings
pub use Rattle.gimli_lines_write_tables.proofs.NumberRoundTrip
pub use Rattle.gimli_lines_write_tables.proofs.EntryDecoding
pub use Rattle.gimli_lines_write_tables.proofs.FewInstructions
pub use Rattle.gimli_lines_write_tables.proofs.SectionTexts
pub use Rattle.gimli_lines_write_tables.proofs.TextTableLemmas
pub use Rattle.linemap_emit_programs.proofs.Wrapping
pub use Rattle.linemap_emit_programs.proofs.ArangeSetLemmas
pub use Rattle.linemap_emit_programs.proofs.TilingLemmas
pub use Rattle.linemap_emit_programs.proofs.DeclarationsRead
pub use Rattle.linemap_emit_programs.proofs.EmittedRangesRead
pub use Rattle.linemap_emit_programs.proofs.EntryRowsRead
pub use Rattle.linemap_emit_programs.proofs.EntryListsRead
pub use Rattle.linemap_emit_programs.proofs.FollowedReads
pub use Rattle.linemap_emit_programs.proofs.UnitsRead
pub use Rattle.linemap_emit_programs.proofs.ValuesRead
pub use Rattle.linemap_emit_programs.proofs.EmittedFileTexts
pub use Rattle.linemap_emit_programs.proofs.EmittedRowsBuilt
pub use Rattle.linemap_emit_programs.proofs.EmittedRowsShown
pub use Rattle.linemap_emit_programs.proofs.SoundSequenceLemmas
pub use Rattle.linemap_emit_programs.proofs.SoundUnits
pub use Rattle.linemap_emit_programs.proofs.TableLocations
pub use Rattle.linemap_emit_programs.proofs.RowLaws
mod EmittedTextLemmas
pub mod InlinedNameLemmas
mod EmittedCallLemmas
mod WorkedEmission
