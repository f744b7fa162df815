-- The laws of names.
use Rattle.std.proofs.Common.{◌≡◌, ℕ, zero, suc, ◌-◌, ◌<◌, ◌≤◌, ◌||◌, Bool, true, false, if◌then◌else◌, List, [], ◌∷◌, ◌++◌, map, All, Option, Some, None, Result, Ok, Err, IsOk, refl, sym, subst, ap, ◌∙◌, arith}
use Rattle.std.specs.List.{filter_map, last_or}
use Rattle.std.specs.Option.{option_or}
use Rattle.std.proofs.lemmas.List.Elements.{All-head, All-tail}
use Rattle.gimli_dwarf.specs.Error.{Error}
use Rattle.gimli_dwarf.specs.View.{View}
use Rattle.gimli_dwarf.specs.AttributeMeanings.{value_under}
use Rattle.gimli_dwarf.specs.AttributeValues.{RawValue, RawAttribute}
use Rattle.gimli_dwarf.specs.Results.{and_then}
use Rattle.gimli_dwarf.specs.UnitFacts.{is_name, value_of_kind}
use Rattle.addr2line_names.specs.EntryReferences.{KnownUnits, HoldingUnit, ReferredEntry, referred_entry}
use Rattle.addr2line_names.specs.EntryNamings.{by_name, by_reference, is_linkage_name, is_reference, text_of, naming_at}
use Rattle.addr2line_names.specs.FunctionNames.{name_by_reference, name_of_attribute, name_or, first_name, name_of, most_references}
use Rattle.addr2line_names.specs.FunctionNameLaws.{IsNoReference, IsNamedBy, OwnNameNeedsNoReference, RefusalIsFinal, RefersFurther, CirclesHaveNoName, LeadsTo, origin, ChainsAreLimited}
use Rattle.addr2line_names.proofs.ReferenceChains.{by_no_reference, by_reference_to_naming}

abbrev Answer : Type 0
Answer = Result (Option View) Error

-- ---- an entry's own name

-- the name by an attribute that is no reference
abbrev own : Bool → Option View → Option View
own is_named text = if is_named then text else None

gives_own : (is_named is_reference : Bool) (text : Option View) (after : Answer) → is_reference ≡ false
    → (if is_named then Ok text else if is_reference then after else Ok None) ≡ Ok (own is_named text)
gives_own true r text after h = refl
gives_own false true text after h = absurd cc
gives_own false false text after h = refl

gives_text : (is_named : Bool) (text : Option View) (after : Answer) (name : View) → is_named ≡ true → text ≡ Some name
    → (if is_named then Ok text else after) ≡ Ok (Some name)
gives_text true text after name h is = ap (λ (o : Option View). answer o) is
  where
    answer : Option View → Answer
    answer o = Ok o
gives_text false text after name h is = absurd cc

or_own : (o p : Option View) → name_or o (Ok p) ≡ Ok (option_or o p)
or_own None p = refl
or_own (Some name) p = refl

module _ (h : HoldingUnit) where
  abbrev own_of : RawAttribute → Option View
  own_of a = own (is_linkage_name a.name || is_name a.name) (text_of h (value_under a.name a.value))

  -- the first name of attributes with a name after them
  abbrev first_own : List RawAttribute → View → Option View
  first_own [] name = Some name
  first_own (b ∷ bs) name = option_or (own_of b) (first_own bs name)

  first_name_of_all : (follow : RawValue → Answer) (before after : List RawAttribute) (a : RawAttribute) (name : View)
      → All IsNoReference before → IsNamedBy h a name
      → first_name (map (name_of_attribute h follow) (before ++ a ∷ after)) ≡ Ok (first_own before name)
  first_name_of_all follow [] after a name free is =
      ap (λ (r : Answer). and_then r (λ n. name_or n (first_name (map (name_of_attribute h follow) after))))
      (gives_text (is_linkage_name a.name || is_name a.name) (text_of h (value_under a.name a.value))
      (if is_reference a.name then follow (value_under a.name a.value) else Ok None) name is.0 is.1)
  first_name_of_all follow (b ∷ bs) after a name free is =
      ap (λ (r : Answer).
      and_then r (λ n. name_or n (first_name (map (name_of_attribute h follow) (bs ++ a ∷ after)))))
      (gives_own (is_linkage_name b.name || is_name b.name) (is_reference b.name)
      (text_of h (value_under b.name b.value))
      (follow (value_under b.name b.value)) (All-head IsNoReference b bs free))
      ∙ ap (λ (r : Answer). name_or (own_of b) r)
      (first_name_of_all follow bs after a name (All-tail IsNoReference b bs free) is)
      ∙ or_own (own_of b) (first_own bs name)

pub own_name : OwnNameNeedsNoReference
own_name known other h before after a name free is =
    let links : List View = filter_map (value_of_kind (text_of h) is_linkage_name) (before ++ a ∷ after) in
    let here : (k : KnownUnits)
    → name_of k h (before ++ a ∷ after) ≡ Ok (last_or (first_own h before name) links) =
    λ k. ap (λ (r : Answer). and_then r (λ first. Ok (last_or first links)))
    (first_name_of_all h (name_by_reference k most_references h) before after a name free is) in
    let P : Answer → Type 0 = λ r. IsOk r in
    (subst P (sym (here known)) refl, here known ∙ sym (here other))

-- ---- refusals

refusal_of_one : (r s t : Answer) (e : Error) → (s ≡ Err e → t ≡ Err e) → and_then r (λ n. name_or n s) ≡ Err e
    → and_then r (λ n. name_or n t) ≡ Err e
refusal_of_one (Err x) s t e on h = h
refusal_of_one (Ok None) s t e on h = on h
refusal_of_one (Ok (Some name)) s t e on h = absurd cc

refusal_of_first : (g : RawAttribute → Answer) (before after : List RawAttribute) (e : Error)
    → first_name (map g before) ≡ Err e → first_name (map g (before ++ after)) ≡ Err e
refusal_of_first g [] after e h = absurd cc
refusal_of_first g (b ∷ bs) after e h =
    refusal_of_one (g b) (first_name (map g bs)) (first_name (map g (bs ++ after))) e (refusal_of_first g bs after e) h

refusal_before : (r : Answer) (links : List View) (e : Error) → and_then r (λ first. Ok (last_or first links)) ≡ Err e
    → r ≡ Err e
refusal_before (Ok name) links e h = absurd cc
refusal_before (Err x) links e h =
    let is : x ≡ e = cc in
    ap (λ (d : Error). refusal d) is
  where
    refusal : Error → Answer
    refusal d = Err d

pub refusal_is_final : RefusalIsFinal
refusal_is_final known h before after e is =
    let answer_of : RawAttribute → Answer = name_of_attribute h (name_by_reference known most_references h) in
    ap (λ (r : Answer).
    and_then r
    (λ first. Ok (last_or first (filter_map (value_of_kind (text_of h) is_linkage_name) (before ++ after)))))
    (refusal_of_first answer_of before after e
    (refusal_before (first_name (map answer_of before))
    (filter_map (value_of_kind (text_of h) is_linkage_name) before) e is))

-- ---- chains

-- an entry that refers further
further_on :
    (known : KnownUnits) (left more : ℕ) (h : HoldingUnit) (v : RawValue) (e : ReferredEntry) (w : RawValue)
    → left ≡ suc more
    → referred_entry known h v ≡ Ok (Some e) → naming_at e ≡ Ok (by_reference w)
    → name_by_reference known left h v ≡ name_by_reference known more e.holder w
further_on known left more h v e w is leads says =
    let some : 0 < left = omega arith in
    let same : left - 1 ≡ more = omega arith in
    by_reference_to_naming known left h v (Some e) e (by_reference w) (by_reference w) some leads refl says refl
    ∙ ap (λ (n : ℕ). name_by_reference known n e.holder w) same

circle : (references : ℕ) (known : KnownUnits) (one other : ReferredEntry) (v w : RawValue)
    → RefersFurther known other.holder v one w → RefersFurther known one.holder w other v
    → name_by_reference known references other.holder v ≡ Ok None
circle zero known one other v w to back = by_no_reference known zero other.holder v refl
circle (suc more) known one other v w to back =
    further_on known (suc more) more other.holder v one w refl to.is_referred to.refers_on
    ∙ circle more known other one w v back to

pub circles : CirclesHaveNoName
circles known one other v w to back references = circle references known one other v w to back

module _ (known : KnownUnits) (name : View) where
  near : (further left : ℕ) (h : HoldingUnit) (v : RawValue) (e : ReferredEntry)
      → referred_entry known h v ≡ Ok (Some e) → LeadsTo known name further e
      → further < left → name_by_reference known left h v ≡ Ok (Some name)
  near zero left h v e leads to below =
      by_reference_to_naming known left h v (Some e) e (by_name name) (by_name name) below leads refl to refl
  near (suc more) left h v e leads to below =
      let before : left ≡ suc (left - 1) = omega arith in
      let more_below : more < left - 1 = omega arith in
      further_on known left (left - 1) h v e to.0 before leads to.2
      ∙ near more (left - 1) e.holder to.0 to.1 to.3 to.4 more_below

  far : (further left : ℕ) (h : HoldingUnit) (v : RawValue) (e : ReferredEntry) → referred_entry known h v ≡ Ok (Some e)
      → LeadsTo known name further e
      → left ≤ further → name_by_reference known left h v ≡ Ok None
  far zero left h v e leads to above = by_no_reference known left h v (omega arith)
  far (suc more) zero h v e leads to above = by_no_reference known zero h v refl
  far (suc more) (suc left) h v e leads to above =
      let more_above : left ≤ more = omega arith in
      further_on known (suc left) left h v e to.0 refl leads to.2
      ∙ far more left e.holder to.0 to.1 to.3 to.4 more_above

-- the name of an instance is what its origin leads to
of_origin : (known : KnownUnits) (h : HoldingUnit) (form : ℕ) (v : RawValue) (o : Option View)
    → name_by_reference known most_references h v ≡ Ok o
    → name_of known h (origin form v ∷ []) ≡ and_then (name_or o (Ok None)) (λ first. Ok first)
of_origin known h form v o is =
    ap (λ (r : Answer). and_then (and_then r (λ n. name_or n (Ok None))) (λ first. Ok (last_or first []))) is

pub chains : ChainsAreLimited
chains known h form v first further name leads to = (
  (λ below. of_origin known h form v (Some name)
      (near known name further most_references h v first leads to below)),
  (λ above. of_origin known h form v None
      (far known name further most_references h v first leads to above)),
)
