pub use Rattle.addr2line_spec.proofs.LookupsWithoutLoads
mod RecordedUnitFacts
mod RecordedContexts
mod RecordedFrames
pub mod RecordedAnswers
mod EmissionGrowth
mod EmittedStringLemmas
mod EmittedListLemmas
pub mod EmittedProgramLemmas
pub mod EmittedFunctionLemmas
mod EmittedFunctionUnits
pub mod EmittedUnitLemmas
mod ListTablesRead
mod UnitsApart
