-- The name of attributes, found by a loop over them.
use Rattle.std.proofs.Common.{◌≡◌, ℕ, ◌+◌, ◌<◌, ◌≤◌, Bool, true, false, ◌||◌, if◌then◌else◌, List, [], ◌∷◌, length, get_or, drop, map, Option, Some, None, Result, Ok, Err, refl, sym, ap, ◌∙◌}
use Rattle.std.specs.List.{filter_map, last_or, cons_option}
use Rattle.std.specs.Option.{option_or}
use Rattle.std.proofs.lemmas.List.{at_drop_more, at_drop_all}
use Rattle.gimli_dwarf.specs.Error.{Error}
use Rattle.gimli_dwarf.specs.View.{View}
use Rattle.gimli_dwarf.specs.AttributeMeanings.{value_under}
use Rattle.gimli_dwarf.specs.AttributeValues.{RawValue, RawAttribute}
use Rattle.gimli_dwarf.specs.Results.{and_then}
use Rattle.gimli_dwarf.specs.UnitFacts.{is_name, value_of_kind}
use Rattle.addr2line_names.specs.EntryReferences.{HoldingUnit}
use Rattle.addr2line_names.specs.EntryNamings.{is_linkage_name, is_reference, text_of}
use Rattle.addr2line_names.specs.FunctionNames.{name_of_attribute, name_or, first_name, name_with}

abbrev Answer : Type 0
Answer = Result (Option View) Error

-- ---- one attribute

-- the name so far, and then what comes of it
abbrev then_links : Answer → List View → Answer
then_links first links = and_then first (λ name. Ok (last_or name links))

again : (r rest : Answer) (links : List View)
    → then_links (and_then r (λ name. name_or name rest)) links
    ≡ and_then r (λ name. then_links (name_or name rest) links)
again (Ok name) rest links = refl
again (Err e) rest links = refl

-- an attribute that may be a linkage name, and then the others
one : (is_linkage is_plain : Bool) (text found : Option View) (after rest : Answer) (links : List View)
    → then_links
    (name_or found (and_then (if is_linkage || is_plain then Ok text else after) (λ name. name_or name rest)))
    (cons_option (if is_linkage then text else None) links)
    ≡ and_then
    (if is_linkage then Ok (option_or text found)
    else name_or found (if is_linkage || is_plain then Ok text else after))
    (λ name. then_links (name_or name rest) links)
one true is_plain None None after rest links = refl
one true is_plain None (Some x) after rest links = refl
one true is_plain (Some t) None after rest links = refl
one true is_plain (Some t) (Some x) after rest links = refl
one false is_plain text None after rest links = again (if is_plain then Ok text else after) rest links
one false is_plain text (Some x) after rest links = refl

module _ (h : HoldingUnit) (follow : RawValue → Answer) where
  -- the name so far, and that of the attributes to come
  abbrev pub name_from : Option View → List RawAttribute → Answer
  name_from found attributes =
      then_links (name_or found (first_name (map (name_of_attribute h follow) attributes)))
      (filter_map (value_of_kind (text_of h) is_linkage_name) attributes)

  pub name_from-first : (found : Option View) (a : RawAttribute) (others : List RawAttribute)
      → name_from found (a ∷ others) ≡ and_then (name_with h follow found a) (λ name. name_from name others)
  name_from-first found a others =
      one (is_linkage_name a.name) (is_name a.name) (text_of h (value_under a.name a.value)) found
      (if is_reference a.name then follow (value_under a.name a.value) else Ok None)
      (first_name (map (name_of_attribute h follow) others))
      (filter_map (value_of_kind (text_of h) is_linkage_name) others)

  module _ {X : Type 0} (view : X → RawAttribute) where
    -- the same from a place of a list on
    abbrev pub name_from_place : Option View → List X → ℕ → Answer
    name_from_place found xs i = name_from found (map view (drop i xs))

    by_first : (found : Option View) (xs : List X) (i : ℕ) (x : X) → i < length xs → x ≡ get_or xs i x
        → name_from_place found xs i
        ≡ and_then (name_with h follow found (view x)) (λ name. name_from_place name xs (i + 1))
    by_first found xs i x below here =
        at_drop_more (λ (ys : List X). name_from found (map view ys)) xs i x below
        ∙ ap (λ y. name_from found (view y ∷ map view (drop (i + 1) xs))) (sym here)
        ∙ name_from-first found (view x) (map view (drop (i + 1) xs))

    -- one step on, what all give is the same
    pub name_from_place-more : (found next : Option View) (xs : List X) (i : ℕ) (x : X) (all : Answer) → i < length xs
        → x ≡ get_or xs i x
        → name_with h follow found (view x) ≡ Ok next → name_from_place found xs i ≡ all
        → name_from_place next xs (i + 1) ≡ all
    name_from_place-more found next xs i x all below here gives before =
        sym (ap (λ r. and_then r (λ name. name_from_place name xs (i + 1))) gives)
        ∙ sym (by_first found xs i x below here) ∙ before

    -- a refusal is that of all
    pub name_from_place-refused : (found : Option View) (e : Error) (xs : List X) (i : ℕ) (x : X) (all : Answer)
        → i < length xs → x ≡ get_or xs i x
        → name_with h follow found (view x) ≡ Err e → name_from_place found xs i ≡ all → all ≡ Err e
    name_from_place-refused found e xs i x all below here refuses before =
        sym before ∙ by_first found xs i x below here
        ∙ ap (λ r. and_then r (λ name. name_from_place name xs (i + 1))) refuses

    ending : (found : Option View) → name_from found [] ≡ Ok found
    ending None = refl
    ending (Some name) = refl

    -- after the last attribute, it is the name so far
    pub name_from_place-end : (found : Option View) (xs : List X) (i : ℕ) (all : Answer) → length xs ≤ i
        → name_from_place found xs i ≡ all → all ≡ Ok found
    name_from_place-end found xs i all past before =
        sym before ∙ at_drop_all (λ (ys : List X). name_from found (map view ys)) xs i past ∙ ending found
