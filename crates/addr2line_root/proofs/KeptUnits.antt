-- What a root says of a unit that is kept bare it says of the whole one.
use Rattle.std.proofs.Common.{◌≡◌, Bool, true, false, List, None, Result, Ok, Err, refl, sym, ap, subst, ◌∙◌}
use Rattle.addr2line_ranges.specs.Error.{Error}
use Rattle.addr2line_ranges.specs.Range.{Range}
use Rattle.addr2line_ranges.specs.Results.{and_then, each}
use Rattle.addr2line_ranges.specs.AttributeValues.{RawAttribute}
use Rattle.addr2line_ranges.specs.DwarfFiles.{DwarfFile}
use Rattle.addr2line_ranges.specs.UnitFacts.{UnitFacts, UnitInFile, in_file, unit_facts}
use Rattle.addr2line_ranges.specs.Lines.{Lines}
use Rattle.addr2line_ranges.specs.UnitRanges.{RangeFact, fact_of, list_in, last_of, declared_ranges, or_else, ranges_of_lines, ranges_of_attributes}
use Rattle.addr2line_ranges.specs.LastFacts.{LastFacts, last_facts, facts_of, declared_by}
use Rattle.addr2line_ranges.proofs.UnitRangeLemmas.{ok_ranges, refused_ranges, ranges-found, ranges-refused}
use Rattle.gimli_dwarf.specs.BareUnits.{bare_facts, bare}
use Rattle.gimli_dwarf.specs.WholeUnits.{IsBareIn, facts_or, whole_facts, whole_unit}
use Rattle.addr2line_root.specs.CountedRuns.{CountedUnit}
use Rattle.addr2line_root.specs.MainUnits.{MainUnit, unit_of_kept, counted_of_kept, IsKeptBare, IsKeptUnit}
use Rattle.addr2line_root.specs.RootRanges.{ranges_declared}

-- ---- bare units

abbrev read_facts : UnitFacts → Result UnitFacts Error
read_facts u = Ok u

module _ (file : DwarfFile) (u : UnitFacts) where
  -- it is what is left of its whole unit
  pub left_of_whole : IsBareIn file u → u ≡ bare_facts (whole_facts file u)
  unfolding whole_facts
  left_of_whole h = by (unit_facts file u.header) h
    where
      by : (r : Result UnitFacts Error) → bare r ≡ read_facts u → u ≡ bare_facts (facts_or u r)
      by (Ok f) e = cc
      by (Err e) d = absurd cc

-- ---- the ranges that a root declares

module _ (file : DwarfFile) (u : UnitFacts) where
  same_fact : (a : RawAttribute) → fact_of (in_file file (bare_facts u)) a ≡ fact_of (in_file file u) a
  same_fact a = refl

  same_facts : (attributes : List RawAttribute)
      → each (fact_of (in_file file (bare_facts u))) attributes ≡ each (fact_of (in_file file u)) attributes
  same_facts attributes = refl

  same_declared : (last : LastFacts)
      → declared_by (in_file file (bare_facts u)) last ≡ declared_by (in_file file u) last
  same_declared last = refl

  pub declared_of_bare : (attributes : List RawAttribute)
      → ranges_declared (in_file file (bare_facts u)) attributes ≡ ranges_declared (in_file file u) attributes
  declared_of_bare attributes = refl

-- ---- units as they are kept

module _ (is_whole : Bool) (u : UnitInFile) where
  pub same_file : u.file ≡ (unit_of_kept is_whole u).file
  same_file = by is_whole
    where
      by : (b : Bool) → u.file ≡ (unit_of_kept b u).file
      by true = refl
      by false = refl

  -- a whole one is kept as it is
  pub kept_as_it_is : is_whole ≡ true → unit_of_kept is_whole u ≡ u
  kept_as_it_is whole = ap (λ b. unit_of_kept b u) whole

  pub header_of_kept : IsKeptUnit is_whole u → u.facts.header ≡ (unit_of_kept is_whole u).facts.header
  header_of_kept kept = by is_whole kept
    where
      by : (b : Bool) → IsKeptUnit b u → u.facts.header ≡ (unit_of_kept b u).facts.header
      by true kept = refl
      by false kept = ap (λ (f : UnitFacts). f.header) (left_of_whole u.file u.facts kept.is_bare)

  -- a bare one has no identifier
  pub id_of_bare : is_whole ≡ false → IsKeptUnit is_whole u → (unit_of_kept is_whole u).facts.dwo_id ≡ None
  id_of_bare bare kept = by is_whole bare kept
    where
      by : (b : Bool) → b ≡ false → IsKeptUnit b u → (unit_of_kept b u).facts.dwo_id ≡ None
      by true bare kept = absurd cc
      by false bare kept =
          sym (ap (λ (f : UnitFacts). f.dwo_id) (left_of_whole u.file u.facts kept.is_bare)) ∙ kept.has_no_id

  pub bare_if_kept : is_whole ≡ false → IsKeptUnit is_whole u → IsBareIn u.file u.facts
  bare_if_kept bare kept = let here : IsKeptBare u = subst (λ b. IsKeptUnit b u) bare kept in here.is_bare

  pub declared_of_kept : (attributes : List RawAttribute) → IsKeptUnit is_whole u
      → ranges_declared u attributes ≡ ranges_declared (unit_of_kept is_whole u) attributes
  declared_of_kept attributes kept = by is_whole kept
    where
      by : (b : Bool) → IsKeptUnit b u → ranges_declared u attributes ≡ ranges_declared (unit_of_kept b u) attributes
      by true kept = refl
      by false kept =
          ap (λ (f : UnitFacts). ranges_declared (in_file u.file f) attributes)
          (left_of_whole u.file u.facts kept.is_bare)
          ∙ declared_of_bare u.file (whole_facts u.file u.facts) attributes

-- ---- with their counters

abbrev pub main_of_kept : Bool → CountedUnit → MainUnit
main_of_kept is_whole u = record { counted = counted_of_kept is_whole u; is_whole = is_whole }

module _ (is_whole : Bool) (u : CountedUnit) where
  pub counted_as_it_is : is_whole ≡ true → counted_of_kept is_whole u ≡ u
  counted_as_it_is whole = ap (λ b. counted_of_kept b u) whole

  -- made whole just now
  pub counted_made_whole : (new : CountedUnit) → is_whole ≡ false → new ≡ record u { unit = whole_unit u.unit }
      → new ≡ counted_of_kept is_whole u
  counted_made_whole new bare is = is ∙ ap (λ b. counted_of_kept b u) (sym bare)

-- the unit that is lent of what is kept
module _ (is_whole : Bool) (u : CountedUnit) (kept : UnitInFile) (main : MainUnit) (is : kept ≡ u.unit)
    (view : main_of_kept is_whole u ≡ main) where
  whole_is : unit_of_kept is_whole u.unit ≡ main.counted.unit
  whole_is = ap (λ (m : MainUnit). m.counted.unit) view

  pub file_of_unit : kept.file ≡ main.counted.unit.file
  file_of_unit =
      ap (λ (x : UnitInFile). x.file) is ∙ same_file is_whole u.unit ∙ ap (λ (x : UnitInFile). x.file) whole_is

  pub declared_of_unit : IsKeptUnit is_whole u.unit → (attributes : List RawAttribute)
      → ranges_declared kept attributes ≡ ranges_declared main.counted.unit attributes
  declared_of_unit keeps attributes =
      ap (λ (x : UnitInFile). ranges_declared x attributes) is ∙ declared_of_kept is_whole u.unit attributes keeps
      ∙ ap (λ (x : UnitInFile). ranges_declared x attributes) whole_is

-- what is kept of a whole unit
pub keeps_if_whole : (is_whole : Bool) (u : UnitInFile) → is_whole ≡ true → IsKeptUnit is_whole u
keeps_if_whole is_whole u whole = subst (λ b. IsKeptUnit b u) (sym whole) tt

-- ---- all ranges

module _ (u : UnitInFile) (lines : Result Lines Error) (attributes : List RawAttribute) where
  -- those that are declared, or else those of the lines
  pub ranges_if_declared : (rs : List Range) → ranges_declared u attributes ≡ ok_ranges rs
      → ranges_of_attributes u lines attributes ≡ ok_ranges (or_else rs (ranges_of_lines lines))
  ranges_if_declared rs h = by (facts_of u attributes) refl h
    where
      by : (r : Result LastFacts Error) → facts_of u attributes ≡ r → and_then r (declared_by u) ≡ ok_ranges rs
          → ranges_of_attributes u lines attributes ≡ ok_ranges (or_else rs (ranges_of_lines lines))
      by (Ok last) is h = ranges-found u lines attributes last rs is h
      by (Err e) is h = absurd cc

  -- or their refusal
  pub ranges_if_refused : (e : Error) → ranges_declared u attributes ≡ refused_ranges e
      → ranges_of_attributes u lines attributes ≡ refused_ranges e
  ranges_if_refused e h = by (each (fact_of u) attributes) refl h
    where
      by : (r : Result (List RangeFact) Error) → each (fact_of u) attributes ≡ r
          → and_then (and_then r (λ facts. Ok (last_facts facts))) (declared_by u) ≡ refused_ranges e
          → ranges_of_attributes u lines attributes ≡ refused_ranges e
      by (Ok facts) is h =
          ranges-refused u lines attributes (last_facts facts) e (ap (λ r. and_then r (λ fs. Ok (last_facts fs))) is) h
      by (Err d) is h =
          let same : d ≡ e = cc in
          ap (λ (r : Result (List RangeFact) Error). and_then r (λ facts.
          and_then (declared_ranges u facts (last_of list_in facts)) (λ rs.
          Ok (or_else rs (ranges_of_lines lines))))) is
          ∙ ap refused_ranges same
