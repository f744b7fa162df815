-- The last facts of attributes, found by a loop that keeps the last so far.
use Rattle.std.proofs.Common.{◌≡◌, ℕ, ◌+◌, ◌<◌, List, ◌∷◌, length, get_or, drop, map, Result, Ok, Err, refl, sym, ap, ◌∙◌}
use Rattle.std.specs.List.{filter_map, last_or}
use Rattle.std.proofs.lemmas.List.{at_drop_more}
use Rattle.gimli_lines_rows.specs.Error.{Error}
use Rattle.gimli_lines_rows.specs.Results.{and_then, each}
use Rattle.addr2line_index.specs.UnitRanges.{RangeFact, begins_at, ends_at, has_size, has_list, no_fact, begin_in, end_in, size_in, list_in}
use Rattle.addr2line_ranges.specs.LastFacts.{LastFacts, with_fact}

-- further facts after those found
abbrev pub add_facts : LastFacts → List RangeFact → LastFacts
add_facts found facts = record {
  begin = last_or found.begin (filter_map begin_in facts);
  end = last_or found.end (filter_map end_in facts);
  size = last_or found.size (filter_map size_in facts);
  list = last_or found.list (filter_map list_in facts);
}

add_one_fact : (f : RangeFact) (found : LastFacts) (facts : List RangeFact)
    → add_facts (with_fact f found) facts ≡ add_facts found (f ∷ facts)
add_one_fact (begins_at a) found facts = refl
add_one_fact (ends_at a) found facts = refl
add_one_fact (has_size n) found facts = refl
add_one_fact (has_list o) found facts = refl
add_one_fact no_fact found facts = refl

-- those of attributes that are read
abbrev pub add_all_facts : LastFacts → Result (List RangeFact) Error → Result LastFacts Error
add_all_facts found facts = and_then facts (λ fs. Ok (add_facts found fs))

add_first_fact : (f : RangeFact) (found : LastFacts) (facts : Result (List RangeFact) Error)
    → add_all_facts (with_fact f found) facts ≡ add_all_facts found (and_then facts (λ fs. Ok (f ∷ fs)))
add_first_fact f found (Ok fs) = ap Ok (add_one_fact f found fs)
add_first_fact f found (Err e) = refl

module _ {X Y : Type 0} (view : X → Y) (F : Y → Result RangeFact Error) where
  -- what was found, and what the elements from a place on say
  abbrev pub from_list : LastFacts → List X → Result LastFacts Error
  from_list found xs = add_all_facts found (each F (map view xs))

  abbrev pub from_index : LastFacts → List X → ℕ → Result LastFacts Error
  from_index found xs i = from_list found (drop i xs)

  ok_fact_first : (found : LastFacts) (f : RangeFact) (x : X) (xs : List X) → F (view x) ≡ Ok f
      → from_list found (x ∷ xs) ≡ from_list (with_fact f found) xs
  ok_fact_first found f x xs h =
      ap (λ r. add_all_facts found (and_then r (λ y. and_then (each F (map view xs)) (λ ys. Ok (y ∷ ys))))) h
      ∙ sym (add_first_fact f found (each F (map view xs)))

  -- one step on, what all say is the same
  pub from_index-more : (found next : LastFacts) (f : RangeFact) (xs : List X) (i : ℕ) (x : X)
      (all : Result LastFacts Error) → i < length xs → x ≡ get_or xs i x
      → F (view x) ≡ Ok f → next ≡ with_fact f found → from_index found xs i ≡ all → from_index next xs (i + 1) ≡ all
  from_index-more found next f xs i x all below here h taken before =
      ap (λ l. from_index l xs (i + 1)) taken
      ∙ sym (ok_fact_first found f x (drop (i + 1) xs) h)
      ∙ ap (λ y. from_list found (y ∷ drop (i + 1) xs)) here
      ∙ sym (at_drop_more (from_list found) xs i x below)
      ∙ before

  -- a refusal is that of all
  pub from_index-refused : (found : LastFacts) (e : Error) (xs : List X) (i : ℕ) (x : X) (all : Result LastFacts Error)
      → i < length xs → x ≡ get_or xs i x
      → F (view x) ≡ Err e → from_index found xs i ≡ all → all ≡ Err e
  from_index-refused found e xs i x all below here h before =
      sym before
      ∙ at_drop_more (from_list found) xs i x below
      ∙ ap (λ y. from_list found (y ∷ drop (i + 1) xs)) (sym here)
      ∙ ap (λ r. add_all_facts found
      (and_then r (λ y. and_then (each F (map view (drop (i + 1) xs))) (λ ys. Ok (y ∷ ys))))) h
