mod SpelledPieces
mod TableBytes
mod UnitBytesAgain
mod RowAnswers
pub mod UnitReading
mod ReadTexts
pub mod StoredFiles
pub mod ProgramReading
pub mod WrittenForms
pub mod ExpressedPrograms
