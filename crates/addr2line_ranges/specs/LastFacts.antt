-- The last fact of each kind among the facts of a root.
use Rattle.std.specs.Prelude.{ℕ, List, Option, Some, None, option_map, Result, Ok}
use Rattle.std.specs.Option.{option_or}
use Rattle.gimli_lines_rows.specs.Error.{Error}
use Rattle.gimli_lines_rows.specs.Range.{Range}
use Rattle.gimli_lines_rows.specs.AttributeValues.{RawAttribute}
use Rattle.gimli_lines_rows.specs.Results.{and_then, each}
use Rattle.gimli_dwarf.specs.UnitFacts.{UnitInFile}
use Rattle.addr2line_index.specs.UnitRanges.{RangeFact, begins_at, ends_at, has_size, has_list, no_fact, begin_in, end_in, size_in, list_in, last_of, fact_of, low_to_high, or_else, ranges_of_aranges}
use Rattle.addr2line_ranges.specs.RangeListReading.{listed_ranges}
use Rattle.addr2line_ranges.specs.declared.fact.Fact.{Fact}
use Rattle.addr2line_ranges.specs.declared.fact.Fact.TheVariants.{BeginsAt, EndsAt, HasSize, HasList, NoFact}

-- a fact, whose offset a function turns into a number
abbrev pub range_fact : {O : Type 0} → (O → ℕ) → Fact O → RangeFact
range_fact count (BeginsAt a) = begins_at a
range_fact count (EndsAt a) = ends_at a
range_fact count (HasSize n) = has_size n
range_fact count (HasList list) = has_list (option_map (λ o. count o.0) list)
range_fact count NoFact = no_fact

-- the last fact of each kind
pub record LastFacts : Type 0 where
  pub begin : Option ℕ
  pub end : Option ℕ
  pub size : Option ℕ
  pub list : Option (Option ℕ)

-- before the first fact
abbrev pub no_facts : LastFacts
no_facts = record { begin = None; end = None; size = None; list = None }

-- those with one more fact
abbrev pub with_fact : RangeFact → LastFacts → LastFacts
with_fact f last = record {
  begin = option_or (begin_in f) last.begin;
  end = option_or (end_in f) last.end;
  size = option_or (size_in f) last.size;
  list = option_or (list_in f) last.list;
}

-- those of all facts
abbrev pub last_facts : List RangeFact → LastFacts
last_facts facts =
    record {
      begin = last_of begin_in facts;
      end = last_of end_in facts;
      size = last_of size_in facts;
      list = last_of list_in facts;
    }

-- those of all attributes, or the first refusal
abbrev pub facts_of : UnitInFile → List RawAttribute → Result LastFacts Error
facts_of u attributes =
    and_then (each (fact_of u) attributes) (λ facts. Ok (last_facts facts))

-- what the last of low_pc and high_pc say
abbrev pub root_range : LastFacts → List Range
root_range last = low_to_high last.begin last.end last.size

-- by the last list, if there is one; else the address ranges, and where they are none these
abbrev pub ranges_by : UnitInFile → List Range → Option (Option ℕ)
    → Result (List Range) Error
ranges_by u others (Some (Some offset)) = listed_ranges u offset
ranges_by u others _ = Ok (or_else (ranges_of_aranges u.file u.facts.header.offset) others)

-- what is declared by the last facts of a root
abbrev pub declared_by : UnitInFile → LastFacts → Result (List Range) Error
declared_by u last = ranges_by u (root_range last) last.list

-- the ranges of an entry that is no root: by the last list, if there is one, and else what low_pc
-- and high_pc say
abbrev pub entry_ranges_in : UnitInFile → List Range → Option (Option ℕ)
    → Result (List Range) Error
entry_ranges_in u others (Some (Some offset)) = listed_ranges u offset
entry_ranges_in u others _ = Ok others

-- by the last facts of an entry
abbrev pub entry_ranges_by : UnitInFile → LastFacts → Result (List Range) Error
entry_ranges_by u last = entry_ranges_in u (root_range last) last.list
