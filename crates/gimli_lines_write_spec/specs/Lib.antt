pub use Rattle.gimli_lines_header.specs.HeaderParsing
pub use Rattle.gimli_lines_header.specs.LineFiles
pub use Rattle.gimli_lines_header.specs.declared.formats.FileEntryFormat
pub mod HeaderTexts
pub mod EntryFields
pub mod HeaderSpelling
pub mod HeaderReadBack
