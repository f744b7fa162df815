pub use Rattle.addr2line_ranges.proofs.HolderViews
mod LinesOfPrograms
mod LineProgramRows
mod BuilderRows
mod FileTextLemmas
mod RootLemmas
pub mod KeptUnits
pub mod ReadUnits
mod HeaderUnits
mod SharedPrograms
mod SharedLines
pub mod HeadersInFiles
