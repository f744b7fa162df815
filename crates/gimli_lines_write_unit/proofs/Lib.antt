pub use Rattle.gimli_lines_write_tables.proofs.RowsDecoding
pub use Rattle.gimli_lines_write_tables.proofs.SectionTexts
pub use Rattle.gimli_lines_write_spec.proofs.LineUnitsAgain
mod TextForms
pub mod RefusedBytes
mod WrittenLists
mod FileLists
pub mod KnownTexts
mod LengthPatches
pub mod EmptyTexts
