-- The ranges that were read last, of a range list and of a line number program.
use Rattle.std.specs.Prelude.{ℕ}
use Rattle.addr2line_ranges.specs.ProbedLists.{CounterMaker, after_counter}
use Rattle.addr2line_ranges.specs.DwarfFiles.{DwarfFile}
use Rattle.addr2line_ranges.specs.UnitFacts.{UnitInFile}
use Rattle.addr2line_ranges.specs.declared.last_list.LastList.{LastList}
use Rattle.addr2line_ranges.specs.LastLists.{IsLastOf}
use Rattle.addr2line_root.specs.LastPrograms.{LastProgram, IsLastProgramOf, IsLastProgramFor}

pub record LastRanges : Type 0 where
  pub list : LastList
  pub program : LastProgram

-- the maker of the counters of looks at the lines that may be shared
abbrev pub maker_of : LastRanges → CounterMaker
maker_of last = last.program.counters

-- their name
abbrev pub counter_of : LastRanges → ℕ
counter_of last = (maker_of last).name

-- the same after one more of them was made
abbrev pub after_one_counter : LastRanges → LastRanges
after_one_counter last = record last {
  program = record last.program { counters = after_counter (maker_of last) };
}

-- both are of the file
abbrev pub AreLastOf : DwarfFile → LastRanges → Type 0
AreLastOf file last = IsLastOf file last.list × IsLastProgramOf file last.program

-- and may be shared with a unit of it
abbrev pub AreLastFor : UnitInFile → LastRanges → Type 0
AreLastFor u last = IsLastOf u.file last.list × IsLastProgramFor u last.program
