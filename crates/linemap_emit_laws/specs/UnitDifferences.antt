-- What tables that differ in one unit alone say alike, and files that answer them.
use Rattle.std.specs.Prelude.{◌≡◌, ℕ, false, List, ◌∷◌, ◌++◌}
use Rattle.linemap_emit_units.specs.DwarfFiles.{DwarfFile}
use Rattle.linemap_emit_units.specs.Contexts.{location}
use Rattle.linemap_emit_units.specs.TableParts.{UnitPart}
use Rattle.linemap_emit_units.specs.Meaning as table
use Rattle.linemap_emit_calls_laws.specs.FirstAnswers.{FirstAnswers}
use Rattle.linemap_emit_calls_laws.specs.CallAgreement.{OneByOne}
use Rattle.linemap_emit_laws.specs.RecordedTableLaws.{AnswersTable, SameFrame}

-- no range of the unit holds the address
abbrev pub IsOutside : ℕ → UnitPart → Type 0
IsOutside a u = table.any_holds a u.ranges ≡ false

-- Two tables that differ in one unit alone say the same of each address that this unit holds in
-- neither: the same place and the same frames.
abbrev pub TablesAgreeOutside : Type 0
TablesAgreeOutside =
    (before after : List UnitPart) (u v : UnitPart) (a : ℕ)
    → IsOutside a u → IsOutside a v
    → (table.location_at (before ++ u ∷ after) a ≡ table.location_at (before ++ v ∷ after) a)
    × (table.frames_at (before ++ u ∷ after) a ≡ table.frames_at (before ++ v ∷ after) a)

-- Two files that answer such tables, in whatever encodings, answer each such address alike, under
-- all first answers.
abbrev pub FilesAgreeOutside : Type 0
FilesAgreeOutside =
    (s t : DwarfFile) (before after : List UnitPart) (u v : UnitPart)
    (x : AnswersTable s (before ++ u ∷ after)) (y : AnswersTable t (before ++ v ∷ after))
    (answers other_answers : FirstAnswers) (a : ℕ)
    → IsOutside a u → IsOutside a v
    → (location x.found a ≡ location y.found a)
    × OneByOne SameFrame (x.frames_are answers a).list (y.frames_are other_answers a).list
