-- What a root's facts declare, from the last of each kind.
use Rattle.std.proofs.Common.{◌≡◌, ℕ, List, Option, Some, None, Result, Ok, Err, refl, ap, ◌∙◌}
use Rattle.gimli_lines_rows.specs.Error.{Error}
use Rattle.gimli_lines_rows.specs.Range.{Range}
use Rattle.gimli_lines_rows.specs.AttributeValues.{RawAttribute}
use Rattle.gimli_lines_rows.specs.Results.{and_then, each}
use Rattle.gimli_dwarf.specs.UnitFacts.{UnitInFile}
use Rattle.addr2line_index.specs.Lines.{Lines}
use Rattle.addr2line_index.specs.UnitRanges.{RangeFact, fact_of, list_in, last_of, range_of_root, declared_ranges, or_else, ranges_of_lines, ranges_of_attributes}
use Rattle.addr2line_index.specs.EntryRanges.{ranges_of_facts, ranges_of_entry}
use Rattle.addr2line_ranges.specs.LastFacts.{LastFacts, last_facts, facts_of, ranges_by, declared_by, entry_ranges_in, entry_ranges_by}

-- facts answered, and ranges
abbrev pub ok_facts : LastFacts → Result LastFacts Error
ok_facts last = Ok last

abbrev pub ok_ranges : List Range → Result (List Range) Error
ok_ranges rs = Ok rs

abbrev pub refused_ranges : Error → Result (List Range) Error
refused_ranges e = Err e

module _ (u : UnitInFile) where
  by_list : (facts : List RangeFact) (list : Option (Option ℕ))
      → declared_ranges u facts list ≡ ranges_by u (range_of_root facts) list
  by_list facts None = refl
  by_list facts (Some None) = refl
  by_list facts (Some (Some offset)) = refl

  by_last : (facts : Result (List RangeFact) Error) (last : LastFacts)
      → and_then facts (λ fs. Ok (last_facts fs)) ≡ ok_facts last
      → and_then facts (λ fs. declared_ranges u fs (last_of list_in fs)) ≡ declared_by u last
  by_last (Ok fs) last h = let same : last_facts fs ≡ last =
      cc in by_list fs (last_of list_in fs) ∙ ap (declared_by u) same
  by_last (Err e) last h = cc

  and_last : (facts : Result (List RangeFact) Error) (f : List RangeFact → Result (List Range) Error)
      (k : List Range → Result (List Range) Error)
      → and_then facts (λ fs. and_then (f fs) k) ≡ and_then (and_then facts f) k
  and_last (Ok fs) f k = refl
  and_last (Err e) f k = refl

  -- the ranges of attributes with these last facts, which declare these ranges
  pub ranges-found : (lines : Result Lines Error) (attributes : List RawAttribute) (last : LastFacts) (rs : List Range)
      → facts_of u attributes ≡ ok_facts last
      → declared_by u last ≡ ok_ranges rs
      → ranges_of_attributes u lines attributes ≡ ok_ranges (or_else rs (ranges_of_lines lines))
  ranges-found lines attributes last rs h k =
      let facts : Result (List RangeFact) Error = each (fact_of u) attributes in
      let ends : List Range → Result (List Range) Error = λ rs. Ok (or_else rs (ranges_of_lines lines)) in
      and_last facts (λ fs. declared_ranges u fs (last_of list_in fs)) ends
      ∙ ap (λ r. and_then r ends) (by_last facts last h ∙ k)

  -- the refusal of what they declare is theirs
  pub ranges-refused : (lines : Result Lines Error) (attributes : List RawAttribute) (last : LastFacts) (e : Error)
      → facts_of u attributes ≡ ok_facts last
      → declared_by u last ≡ refused_ranges e
      → ranges_of_attributes u lines attributes ≡ refused_ranges e
  ranges-refused lines attributes last e h k =
      let facts : Result (List RangeFact) Error = each (fact_of u) attributes in
      let ends : List Range → Result (List Range) Error = λ rs. Ok (or_else rs (ranges_of_lines lines)) in
      and_last facts (λ fs. declared_ranges u fs (last_of list_in fs)) ends
      ∙ ap (λ r. and_then r ends) (by_last facts last h ∙ k)

  -- ---- an entry that is no root

  pub entry_by_list : (facts : List RangeFact) (list : Option (Option ℕ))
      → ranges_of_facts u facts list ≡ entry_ranges_in u (range_of_root facts) list
  entry_by_list facts None = refl
  entry_by_list facts (Some None) = refl
  entry_by_list facts (Some (Some offset)) = refl

  entry_by_last : (facts : Result (List RangeFact) Error) (last : LastFacts)
      → and_then facts (λ fs. Ok (last_facts fs)) ≡ ok_facts last
      → and_then facts (λ fs. ranges_of_facts u fs (last_of list_in fs)) ≡ entry_ranges_by u last
  entry_by_last (Ok fs) last h = let same : last_facts fs ≡ last =
      cc in entry_by_list fs (last_of list_in fs) ∙ ap (entry_ranges_by u) same
  entry_by_last (Err e) last h = cc

  -- the ranges of an entry whose attributes have these last facts
  pub entry_ranges-found : (attributes : List RawAttribute) (last : LastFacts)
      → facts_of u attributes ≡ ok_facts last
      → ranges_of_entry u attributes ≡ entry_ranges_by u last
  entry_ranges-found attributes last h = entry_by_last (each (fact_of u) attributes) last h
