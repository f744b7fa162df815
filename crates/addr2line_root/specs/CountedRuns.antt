-- How often a unit's line number program was run (DWARF 5, 6.2).
use Rattle.std.specs.Prelude.{◌≡◌, ℕ, ◌+◌, is_some, Result, Ok, Err, if◌then◌else◌}
use Rattle.gimli_dwarf.specs.UnitFacts.{UnitFacts, UnitInFile}
use Rattle.gimli_lines_rows.specs.Error.{Error}

-- how many runs it takes to read a unit's lines: one of its program, none where it has none
abbrev pub runs_for_lines : UnitFacts → ℕ
runs_for_lines u = if is_some u.line_header then 1 else 0

-- a counter of runs: its name, which no other has, and how many there were
pub record RunCount : Type 0 where
  pub name : ℕ
  pub count : ℕ

-- a unit in its file, with the counter of the runs of its program
pub record CountedUnit : Type 0 where
  pub unit : UnitInFile
  pub runs : RunCount

-- the counter before all runs
abbrev pub without_runs : CountedUnit → CountedUnit
without_runs u = record u { runs = record u.runs { count = 0 } }

-- the same counter, after its lines were read once more
abbrev pub after_run : CountedUnit → CountedUnit
after_run u = record u {
  runs = record u.runs { count = u.runs.count + runs_for_lines u.unit.facts };
}

-- a run is counted, whether the program is refused or not, unless out of memory
abbrev pub CountsRun : {A : Type 0} → Result A Error → CountedUnit → CountedUnit → Type 0
CountsRun (Ok x) old new = new ≡ after_run old
CountsRun (Err e) old new = new ≡ old
