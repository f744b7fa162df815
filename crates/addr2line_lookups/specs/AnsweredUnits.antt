-- The units of one file, and the first answers to their loads.
use Rattle.std.specs.Prelude.{◌≡◌, List, All, map, Option}
use Rattle.addr2line_unit.specs.DwarfFiles.{DwarfFile}
use Rattle.addr2line_unit.specs.FirstAnswers.{FirstAnswer, FirstAnswers}
use Rattle.addr2line_unit.specs.ResolvedUnits.{AnsweredUnit}

-- the first answer to the load of a unit, if there was one
abbrev pub first_of : AnsweredUnit → Option FirstAnswer
first_of v = v.first

-- those of units
abbrev pub answers_of : List AnsweredUnit → FirstAnswers
answers_of vs = map first_of vs

-- units are those of a file
abbrev pub IsOfFile : DwarfFile → AnsweredUnit → Type 0
IsOfFile file v = v.file ≡ file

abbrev pub AreOfFile : DwarfFile → List AnsweredUnit → Type 0
AreOfFile file vs = All (IsOfFile file) vs
