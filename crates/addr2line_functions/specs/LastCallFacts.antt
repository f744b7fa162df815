-- What the attributes of a call say, with the last fact of each kind alone.
use Rattle.std.specs.Prelude.{ℕ, ◌||◌, Bool, List, Option, Result, Ok}
use Rattle.gimli_units_entries.specs.Error.{Error}
use Rattle.gimli_units_entries.specs.View.{View}
use Rattle.gimli_units_entries.specs.AttributeValues.{RawAttribute}
use Rattle.gimli_units_entries.specs.Results.{and_then}
use Rattle.addr2line_names.specs.UnitFacts.{UnitInFile, is_low_pc}
use Rattle.addr2line_ranges.specs.UnitRanges.{is_high_pc, is_ranges, fact_of}
use Rattle.addr2line_ranges.specs.LastFacts.{LastFacts, with_fact, last_facts}
use Rattle.addr2line_ranges.specs.InlinedCalls.{Naming, CallFacts, no_call_facts, call_facts}

-- the name, and the last fact of each kind
pub record LastCallFacts : Type 0 where
  pub name : Option View
  pub ranges : LastFacts

abbrev pub last_of_call : CallFacts → LastCallFacts
last_of_call f = record { name = f.name; ranges = last_facts f.ranges }

-- those of all attributes, or the first refusal
abbrev pub last_call_facts : UnitInFile → Naming → List RawAttribute → Result LastCallFacts Error
last_call_facts u naming attributes =
    and_then (call_facts u naming no_call_facts attributes) (λ f. Ok (last_of_call f))

-- ---- attribute by attribute

-- the attributes that say something of ranges, by their names
abbrev pub is_ranging : ℕ → Bool
is_ranging n = is_low_pc n || (is_high_pc n || is_ranges n)

-- the last facts with that of one more attribute
abbrev pub with_fact_of : UnitInFile → RawAttribute → LastFacts → Result LastFacts Error
with_fact_of u a last = and_then (fact_of u a) (λ f. Ok (with_fact f last))
