pub use Rattle.gimli_units_entries.proofs.RefusedCalls
pub use Rattle.gimli_units_entries.proofs.RowParts
mod DwarfExamples
