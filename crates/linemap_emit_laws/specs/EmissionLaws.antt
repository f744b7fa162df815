-- Files that hold what is emitted of a table say what it says, and are read as what it means.
use Rattle.std.specs.Prelude.{◌≤◌, ◌^◌, Bool, List}
use Rattle.linemap_emit_units.specs.Encoding.{Encoding}
use Rattle.linemap_emit_units.specs.DwarfFiles.{DwarfFile}
use Rattle.linemap_emit_units.specs.Conditions.{IsSound}
use Rattle.linemap_emit_units.specs.TableParts.{UnitPart}
use Rattle.linemap_emit_laws.specs.RecordedTables.{RecordsTable}
use Rattle.linemap_emit_laws.specs.RecordedTableLaws.{AnswersTable}
use Rattle.linemap_emit_units.specs.TableEmission.{no_units, emitted_table}
use Rattle.linemap_emit_units.specs.EmittedSections.{HoldTable}
use Rattle.linemap_emit_units.specs.EmittedUnits.{IsWritten}
use Rattle.linemap_emit_units.specs.FittingUnits.{AllUnitsFit, AllInUtf8}

-- Files that hold what was emitted say what the table says.
abbrev pub EmissionRecords : Type 0
EmissionRecords =
    (e : Encoding) (is_big : Bool) (us : List UnitPart) (s : DwarfFile)
    → IsWritten e → 2 ^ 31 ≤ s.offset_limit → AllInUtf8 us
    → AllUnitsFit e is_big us no_units
    → HoldTable e is_big (emitted_table e is_big us) s
    → RecordsTable e is_big s us (emitted_table e is_big us).units

-- Where the table is sound, there is a context over them, and it answers the table's places, frames
-- and stretches.
abbrev pub EmissionAnswers : Type 0
EmissionAnswers =
    (e : Encoding) (is_big : Bool) (us : List UnitPart) (s : DwarfFile)
    → IsSound us → IsWritten e → 2 ^ 31 ≤ s.offset_limit → AllInUtf8 us
    → AllUnitsFit e is_big us no_units
    → HoldTable e is_big (emitted_table e is_big us) s
    → AnswersTable s us
