-- The line number program that was run last: the ranges of its lines are those of any unit whose
-- program depends on the same, and its lines those of such a unit with the same texts.
use Rattle.std.specs.Prelude.{◌≡◌, ℕ, true, List, Option, Some, None, is_some, option_map, Result, Ok, IfSome}
use Rattle.addr2line_ranges.specs.Error.{Error}
use Rattle.addr2line_ranges.specs.Range.{Range}
use Rattle.addr2line_ranges.specs.ProbedLists.{CounterMaker}
use Rattle.addr2line_ranges.specs.LineHeaders.{LineHeader}
use Rattle.addr2line_ranges.specs.HeaderParsing.{header_at}
use Rattle.addr2line_ranges.specs.DwarfFiles.{DwarfFile}
use Rattle.addr2line_ranges.specs.Roots.{line_unit}
use Rattle.addr2line_ranges.specs.UnitFacts.{UnitFacts, UnitInFile, in_file}
use Rattle.addr2line_ranges.specs.FileTexts.{bytes_of}
use Rattle.addr2line_ranges.specs.LineIndexes.{CountedLines, counted_lines}
use Rattle.addr2line_ranges.specs.UnitLines.{lines_of_unit}
use Rattle.addr2line_ranges.specs.UnitRanges.{ranges_of_lines}
use Rattle.addr2line_root.specs.CountedRuns.{CountedUnit, after_run}
use Rattle.addr2line_root.specs.declared.last_program.ProgramKey.{ProgramKey}

-- ---- what ranges depend on

-- What the ranges of a program's lines depend on, of what a unit says: a text that can't be read
-- refuses the lines, and it may be one of an index (DWARF 5, 6.2.4.1 and 7.26).
abbrev pub key_of_header : UnitFacts → LineHeader → ProgramKey
key_of_header u h = record {
  offset = h.offset;
  address_size = u.header.encoding.address_size;
  format = u.bases.encoding.format;
  str_offsets_base = u.bases.str_offsets_base;
}

-- of a unit that has a program
abbrev pub program_key : UnitFacts → Option ProgramKey
program_key u = option_map (key_of_header u) u.line_header

-- What lines depend on beside that: a unit's directory, with which the texts of its files begin,
-- and its name, the text of file 0 up to version 4.
pub record UnitTexts : Type 0 where
  pub directory : Option (List ℕ)
  pub name : Option (List ℕ)

abbrev pub unit_texts : UnitFacts → UnitTexts
unit_texts u =
    record { directory = option_map bytes_of u.comp_dir; name = option_map bytes_of u.name }

-- a header is the one at its offset in the unit's file
abbrev pub IsInFile : UnitInFile → LineHeader → Type 0
IsInFile u h =
    header_at u.file.offset_limit h.offset (line_unit u.facts) u.file.sections.debug_line ≡ Ok h

-- so is that of a unit, if it has one
abbrev pub HasHeaderInFile : UnitInFile → Type 0
HasHeaderInFile u = IfSome u.facts.line_header (IsInFile u)

-- ---- the last program

-- a program that was run for a unit, with the ranges of its lines, and its lines as they are kept
pub record ProgramRun : Type 0 where
  pub key : Option ProgramKey
  pub texts : UnitTexts
  pub ranges : List Range
  pub lines : Result CountedLines Error

-- it was run for a unit of the file, with this counter
pub record IsProgramOf (file : DwarfFile) (counter : ℕ) (p : ProgramRun) : Type 0 where
  pub unit : UnitFacts
  pub header_in_file : HasHeaderInFile (in_file file unit)
  pub has_key : p.key ≡ program_key unit
  pub has_texts : p.texts ≡ unit_texts unit
  pub has_ranges : p.ranges ≡ ranges_of_lines (lines_of_unit (in_file file unit))
  pub has_lines : p.lines ≡ counted_lines counter (lines_of_unit (in_file file unit))

-- the last one, if there is one, and the maker of the counters of looks at lines
pub record LastProgram : Type 0 where
  pub counters : CounterMaker
  pub program : Option ProgramRun

abbrev pub IsLastProgramOf : DwarfFile → LastProgram → Type 0
IsLastProgramOf file last = IfSome last.program (IsProgramOf file last.counters.name)

-- where there is one, the header of this unit of the file is in the file, too
abbrev pub IsLastProgramFor : UnitInFile → LastProgram → Type 0
IsLastProgramFor u last =
    IsLastProgramOf u.file last × (is_some last.program ≡ true → HasHeaderInFile u)

-- this is the last program, and a unit's depends on the same
abbrev pub IsRunFor : UnitFacts → Option ProgramRun → ProgramRun → Type 0
IsRunFor u last p = (last ≡ Some p) × (p.key ≡ program_key u)

-- its lines are shared with a unit that has the same texts, and its run counts as the unit's, too;
-- else nothing is
abbrev pub SharesLines : ProgramRun → Option (Result CountedLines Error) → CountedUnit
    → CountedUnit → Type 0
SharesLines p None old new = new ≡ old
SharesLines p (Some lines) old new =
    (lines ≡ p.lines) × (p.texts ≡ unit_texts old.unit.facts) × (new ≡ after_run old)
