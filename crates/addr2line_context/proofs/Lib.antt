pub use Rattle.addr2line_lookups.proofs.RangeUnits
mod ContextParts
mod NewContexts
mod ContextLoads
mod KeptUnits
mod ContextWalks
mod ContextLooks
mod AskedUnits
pub mod AnsweredFirst
mod SkippedLoads
mod ResumedWithoutFiles
mod SettledContexts
mod FirstLoads
pub mod FoundRows
mod LookupResults
pub mod ResumedLookups
mod UnitRuns
pub mod FrameLoads
pub mod UnitLoads
