-- The name of attributes, found by a loop over them.
use Rattle.std.proofs.Common.{◌≡◌, ℕ, ◌+◌, ◌<◌, ◌≤◌, List, ◌∷◌, length, get_or, drop, map, Option, Result, Ok, Err, sym, ap, ◌∙◌}
use Rattle.std.proofs.lemmas.List.{at_drop_more, at_drop_all}
use Rattle.gimli_units_entries.specs.Error.{Error}
use Rattle.gimli_units_entries.specs.View.{View}
use Rattle.gimli_units_entries.specs.AttributeValues.{RawAttribute}
use Rattle.gimli_units_entries.specs.Results.{and_then}
use Rattle.addr2line_ranges.specs.InlinedCalls.{Naming, name_by}

module _ (naming : Naming) {X : Type 0} (view : X → RawAttribute) where
  -- the name so far, with the attributes from a place on
  abbrev pub name_from_place : Option View → List X → ℕ → Result (Option View) Error
  name_from_place name xs i = name_by naming name (map view (drop i xs))

  by_first : (name : Option View) (xs : List X) (i : ℕ) (x : X) → i < length xs → x ≡ get_or xs i x
      → name_from_place name xs i ≡ and_then (naming name (view x)) (λ more. name_from_place more xs (i + 1))
  by_first name xs i x below here =
      at_drop_more (λ (ys : List X). name_by naming name (map view ys)) xs i x below
      ∙ ap (λ y. name_by naming name (view y ∷ map view (drop (i + 1) xs))) (sym here)

  -- one step on, what all give is the same
  pub name_from_place-more : (name more : Option View) (xs : List X) (i : ℕ) (x : X) (all : Result (Option View) Error)
      → i < length xs → x ≡ get_or xs i x → naming name (view x) ≡ Ok more → name_from_place name xs i ≡ all
      → name_from_place more xs (i + 1) ≡ all
  name_from_place-more name more xs i x all below here named before =
      sym (ap (λ r. and_then r (λ m. name_from_place m xs (i + 1))) named) ∙ sym (by_first name xs i x below here)
      ∙ before

  -- a refusal is that of all
  pub name_from_place-refused : (name : Option View) (e : Error) (xs : List X) (i : ℕ) (x : X)
      (all : Result (Option View) Error) → i < length xs → x ≡ get_or xs i x
      → naming name (view x) ≡ Err e → name_from_place name xs i ≡ all → all ≡ Err e
  name_from_place-refused name e xs i x all below here refused before =
      sym before ∙ by_first name xs i x below here
      ∙ ap (λ r. and_then r (λ m. name_from_place m xs (i + 1))) refused

  -- after the last attribute, it is the name so far
  pub name_from_place-end : (name : Option View) (xs : List X) (i : ℕ) (all : Result (Option View) Error)
      → length xs ≤ i
      → name_from_place name xs i ≡ all → all ≡ Ok name
  name_from_place-end name xs i all past before =
      sym before ∙ at_drop_all (λ (ys : List X). name_by naming name (map view ys)) xs i past
