-- What sections answer that hold what is emitted of a table.
use Rattle.std.specs.Prelude.{◌≤◌, ◌^◌, Bool, List}
use Rattle.linemap_emit_fits.specs.DwarfFiles.{DwarfFile}
use Rattle.linemap_table.specs.TableParts.{UnitPart}
use Rattle.linemap_emit_laws.specs.RecordedTableLaws.{AnswersTable}
use Rattle.linemap_emit_fits.specs.EmittedSections.{SectionBytes, HoldBytes}

-- Over sections with these bytes, where offsets are below a limit of at least 2^31, there is a
-- context, and it answers the table's places, frames and stretches.
abbrev pub AreAnswers : Bool → SectionBytes → List UnitPart → Type 0
AreAnswers is_big bytes us =
    (s : DwarfFile) → 2 ^ 31 ≤ s.offset_limit → HoldBytes is_big bytes s → AnswersTable s us
