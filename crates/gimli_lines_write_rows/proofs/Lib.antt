pub use Rattle.gimli_lines_write_bytes.proofs.FollowedReads
pub use Rattle.gimli_lines_write_bytes.proofs.Listings
pub use Rattle.gimli_lines_write_bytes.proofs.NumberRoundTrip
pub use Rattle.gimli_lines_write_bytes.proofs.PrefixReads
pub use Rattle.gimli_lines_machine.proofs.Wrapping
mod PieceRuns
mod Moves
pub mod ProgramRuns
mod MoveBytes
pub mod JoinedWrites
mod RowTests
mod BytesAgain
pub mod EntryDecoding
mod BuiltEntries
pub mod RowsDecoding
pub mod FewInstructions
