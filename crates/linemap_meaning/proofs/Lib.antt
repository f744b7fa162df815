pub use Rattle.addr2line_paths.proofs.FilePathLemmas
pub mod TableCallChains
mod LocationFiles
pub mod SoundFits
mod FrameLemmas
mod Hexadecimal
pub mod TableRangeHolders
pub mod StretchOrder
pub mod TableRangeLemmas
pub mod SoundUnits
mod SequenceStretches
mod TableStretches
pub mod TableViewLemmas
mod WorkedTables
