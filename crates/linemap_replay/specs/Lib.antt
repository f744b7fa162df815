pub use Rattle.addr2line_context.specs.OwnedPlaces
pub use Rattle.addr2line_context.specs.RangeItems
pub mod OwnedAnswers
pub mod Replays
pub mod CallEffects
pub mod Outcomes
pub mod StretchEnds
pub mod TableHistories
