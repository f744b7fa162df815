-- The ranges of a list that is read to its end.
use Rattle.std.specs.Prelude.{ℕ, List, Result}
use Rattle.gimli_lines_rows.specs.Error.{Error}
use Rattle.gimli_lines_rows.specs.Range.{Range}
use Rattle.gimli_lines_rows.specs.Results.{and_then, each}
use Rattle.gimli_dwarf.specs.Attributes.{ranges_of_list}
use Rattle.gimli_dwarf.specs.UnitFacts.{UnitInFile}

-- all of them, or the first refusal
abbrev pub ranges_or_refusal : List (Result Range Error) → Result (List Range) Error
ranges_or_refusal rs = each (λ (r : Result Range Error). r) rs

-- those of the list at an offset
abbrev pub listed_ranges : UnitInFile → ℕ → Result (List Range) Error
listed_ranges u offset = and_then (ranges_of_list u.file u.facts.bases offset) ranges_or_refusal
