pub use Rattle.gimli_lines_write_rows.proofs.Listings
pub use Rattle.gimli_lines_write_rows.proofs.NumberRoundTrip
pub use Rattle.gimli_lines_write_rows.proofs.EntryDecoding
pub use Rattle.gimli_lines_write_rows.proofs.FewInstructions
pub use Rattle.gimli_lines_write_rows.proofs.JoinedWrites
pub use Rattle.gimli_lines_write_rows.proofs.RowsDecoding
pub mod TextTableLemmas
pub mod SectionTexts
mod SectionWrites
pub mod Keys
pub mod Additions
