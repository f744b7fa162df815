pub use Rattle.gimli_lines_machine.proofs.RefusedCalls
mod Operands
mod Unfoldings
mod NumericSteps
mod LineRowSteps
mod RowPaths
pub mod ProgramHeaders
mod ResumedRows
mod StepsAtOnce
mod SequenceLoops
mod FileDefinitions
mod SinkRows
mod SpecialOpcodes
mod ShortNumbers
