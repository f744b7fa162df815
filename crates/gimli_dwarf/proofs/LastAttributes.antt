-- The last of what elements give, found by a loop that keeps the last so far.
use Rattle.std.proofs.Common.{◌≡◌, ℕ, ◌+◌, ◌<◌, List, length, get_or, drop, map, Option, Some, None, option_map, Result, Ok, refl, sym, ap, ◌∙◌}
use Rattle.std.specs.List.{filter_map, last_or, cons_option}
use Rattle.std.specs.Option.{option_or}
use Rattle.std.proofs.lemmas.List.{at_drop_more}
use Rattle.gimli_dwarf_spec.specs.Error.{Error}

-- a value answered
abbrev pub result_of : {N : Type 0} → N → Result N Error
result_of x = Ok x

module _ {X Y A N : Type 0} (view : X → Y) (see : A → N) (F : Y → Option N) where
  -- what was found, and what the elements from a place on give
  abbrev pub from_index : Option A → List X → ℕ → Option N
  from_index found xs i = last_or (option_map see found) (filter_map F (map view (drop i xs)))

  later : (found next : Option A) (rest : List N)
      → last_or (option_map see (option_or next found)) rest
      ≡ last_or (option_map see found) (cons_option (option_map see next) rest)
  later found None rest = refl
  later found (Some x) rest = refl

  pub from_index-more : (found next : Option A) (xs : List X) (i : ℕ) (x : X) → i < length xs → x ≡ get_or xs i x
      → result_of (F (view x)) ≡ result_of (option_map see next)
      → from_index (option_or next found) xs (i + 1) ≡ from_index found xs i
  from_index-more found next xs i x below here gives =
      let same : F (view x) ≡ option_map see next = cc in
      later found next (filter_map F (map view (drop (i + 1) xs)))
      ∙ ap (λ o. last_or (option_map see found) (cons_option o (filter_map F (map view (drop (i + 1) xs))))) (sym same)
      ∙ ap (λ y. last_or (option_map see found) (cons_option (F (view y)) (filter_map F (map view (drop (i + 1) xs)))))
      here
      ∙ sym (at_drop_more (λ (ys : List X). last_or (option_map see found) (filter_map F (map view ys))) xs i x below)
