pub use Rattle.addr2line_functions.proofs.UnitAnswers
pub use Rattle.addr2line_functions.proofs.UnitViews
pub use Rattle.addr2line_functions.proofs.PendingLoads
pub use Rattle.addr2line_functions.proofs.RangeNumbers
pub use Rattle.addr2line_functions.proofs.NumberedCalls
pub mod KeptParses
mod CodeUnits
pub mod KeptWalks
pub mod FunctionParses
pub mod NewUnits
pub mod UnitOrder
pub mod UnitReading
pub mod UnitsInOrder
pub mod ResolvedViews
