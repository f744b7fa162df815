pub use Rattle.linemap_emit_units.proofs.UnitProgramsRead
pub use Rattle.linemap_emit_units.proofs.BuiltUnits
pub use Rattle.linemap_emit_units.proofs.PlacedFiles
pub use Rattle.linemap_emit_units.proofs.EmittedRowsBuilt
pub use Rattle.linemap_emit_units.proofs.AddedFiles
mod NumberSizes
mod StringSectionSizes
mod InstructionSizes
mod EntryListSizes
mod InlinedNameSizes
mod FileTableSizes
mod LineProgramSizes
mod EntrySizes
mod SoundUnitFits
pub mod EmittedUnitSizes
pub mod EmissionSums
