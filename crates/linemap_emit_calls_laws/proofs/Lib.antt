pub use Rattle.linemap_frames_laws.proofs.AgreeingFunctions
pub use Rattle.linemap_frames_laws.proofs.AgreeingFrames
pub use Rattle.linemap_frames_laws.proofs.TableFrames
mod EntryDepths
pub mod EntryFacts
mod OriginNames
mod CallEntriesRead
mod FunctionEntriesRead
pub mod UnitFunctionsFound
