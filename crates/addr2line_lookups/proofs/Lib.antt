pub use Rattle.addr2line_unit.proofs.NewUnits
pub use Rattle.addr2line_unit.proofs.UnitsInOrder
pub use Rattle.addr2line_unit.proofs.UnitAnswers
pub use Rattle.addr2line_unit.proofs.PendingLoads
pub mod AddressSearches
pub mod AnsweredLoads
pub mod AskedFunctions
pub mod AskedLines
pub mod CallsLeft
pub mod CallsOfUnits
pub mod ContextOfUnits
pub mod FirstLoads
pub mod FoundFrames
mod FoundFunctions
pub mod KeptFunctionLists
pub mod KeptLines
pub mod LookupProbes
pub mod PassedUnits
pub mod PendingUnits
pub mod ReadLines
pub mod SettledUnits
pub mod UnitChanges
pub mod UnitProbes
pub mod UnitRows
pub mod UnitTurns
mod RangeSteps
mod WalkLooks
mod ListedLoads
mod UnitCalls
pub mod UnitWalks
mod KeptCallsAt
pub mod ParsedUnits
mod AskedStretches
pub mod RangeUnits
mod KeptAhead
