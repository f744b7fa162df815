-- The ranges of the entry of a function, or of a call (DWARF 5, 2.17).
use Rattle.std.specs.Prelude.{ℕ, List, Option, Some, Result, Ok}
use Rattle.gimli_lines_machine.specs.Error.{Error}
use Rattle.gimli_lines_machine.specs.Range.{Range}
use Rattle.gimli_dwarf_spec.specs.AttributeValues.{RawAttribute}
use Rattle.gimli_lines_machine.specs.Results.{and_then, each, ◌>>=◌}
use Rattle.gimli_dwarf_spec.specs.Attributes.{ranges_of_list}
use Rattle.gimli_dwarf_spec.specs.UnitFacts.{UnitInFile}
use Rattle.addr2line_spec.specs.UnitRanges.{RangeFact, fact_of, list_in, last_of, range_of_root}

-- its range list, if it has one, else what low_pc and high_pc say
abbrev pub ranges_of_facts : UnitInFile → List RangeFact → Option (Option ℕ)
    → Result (List Range) Error
ranges_of_facts u facts (Some (Some offset)) =
    and_then (ranges_of_list u.file u.facts.bases offset) (λ rs.
    each (λ (r : Result Range Error). r) rs)
ranges_of_facts u facts _ = Ok (range_of_root facts)

-- The ranges of an entry with these attributes, or the first refusal: of an attribute, or else of
-- the range list.
abbrev pub ranges_of_entry : UnitInFile → List RawAttribute
    → Result (List Range) Error
ranges_of_entry u attributes = do
  facts ← each (fact_of u) attributes
  ranges_of_facts u facts (last_of list_in facts)
