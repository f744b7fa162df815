-- What a unit's root says of lookups, and the lines that were read for it.
use Rattle.std.specs.Prelude.{◌≡◌, ℕ, List, Option, Some, None, Result}
use Rattle.addr2line_ranges.specs.Error.{Error}
use Rattle.addr2line_ranges.specs.Range.{Range}
use Rattle.addr2line_ranges.specs.UnitFacts.{UnitInFile}
use Rattle.addr2line_ranges.specs.LineIndexes.{CountedLines, counted_lines}
use Rattle.addr2line_ranges.specs.UnitLines.{lines_of_unit}
use Rattle.addr2line_ranges.specs.AttributeValues.{RawAttribute}
use Rattle.addr2line_ranges.specs.Results.{◌>>=◌}
use Rattle.addr2line_ranges.specs.LastFacts.{facts_of, declared_by}
use Rattle.addr2line_ranges.specs.UnitRanges.{ranges_of_lines}
use Rattle.addr2line_ranges.specs.Contexts.{ContextUnit}
use Rattle.addr2line_root.specs.CountedRuns.{CountedUnit, after_run}

-- the ranges that a root declares by these attributes
abbrev pub ranges_declared : UnitInFile → List RawAttribute → Result (List Range) Error
ranges_declared u attributes = do
  last ← facts_of u attributes
  declared_by u last

-- ranges, and the lines of the unit where its program was run for them
pub record RootRanges : Type 0 where
  pub ranges : List Range
  pub lines : Option (Result CountedLines Error)

-- those of the unit's lines, looks at which this counter counts
abbrev pub ranges_by_run : ℕ → UnitInFile → RootRanges
ranges_by_run counter u =
    record {
      ranges = ranges_of_lines (lines_of_unit u);
      lines = Some (counted_lines counter (lines_of_unit u));
    }

-- Lines are the unit's with this counter, of one run of its program, if it has one, where the
-- ranges are those of its lines; else nothing was run.
abbrev pub RunsForRanges : ℕ → List Range → Option (Result CountedLines Error) → CountedUnit
    → CountedUnit → Type 0
RunsForRanges counter ranges None old new = new ≡ old
RunsForRanges counter ranges (Some lines) old new =
    (lines ≡ counted_lines counter (lines_of_unit old.unit))
    × (ranges ≡ ranges_of_lines (lines_of_unit old.unit)) × (new ≡ after_run old)

-- with the unit's language
pub record RootFacts : Type 0 where
  pub ranges : List Range
  pub language : Option ℕ
  pub lines : Option (Result CountedLines Error)

-- what a context keeps of a unit whose root says this
abbrev pub unit_with : UnitInFile → RootFacts → ContextUnit
unit_with u root =
    record {
      facts = u.facts;
      ranges = root.ranges;
      language = root.language;
      lines = lines_of_unit u;
    }
