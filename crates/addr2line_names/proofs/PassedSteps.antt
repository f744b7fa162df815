-- Attributes that are skipped, or read and dropped, are ones of which no name is made.
use Rattle.std.proofs.Common.{◌≡◌, ℕ, ◌-◌, ◌<◌, true, false, List, [], ◌∷◌, ◌++◌, length, get_or, take, drop, map, Result, Ok, Err, sym, ap, subst, ◌∙◌, refl, arith, length-drop}
use Rattle.std.specs.Prelude.{All}
use Rattle.std.proofs.lemmas.List.{append_assoc, append-nil, at_drop_more, take_all}
use Rattle.std.proofs.lemmas.List.Elements.{All-nil, All-cons, All-head, All-tail, All-append, All-push}
use Rattle.gimli_core_abbrev.specs.Error.{Error}
use Rattle.gimli_core_abbrev.specs.View.{View}
use Rattle.gimli_core_abbrev.specs.Parsers.{proceed, give}
use Rattle.gimli_core_abbrev.specs.Encoding.{Encoding}
use Rattle.gimli_core_abbrev.proofs.StepParts.{begins, value_is, state_is}
use Rattle.gimli_dwarf.specs.Declarations.{Attribute}
use Rattle.gimli_dwarf.specs.Repetition.{prepend}
use Rattle.gimli_dwarf.specs.EntryWalks as entries
use Rattle.gimli_dwarf.specs.EntryWalks.{Walk, read_in_walk, walk_with_rest}
use Rattle.gimli_dwarf.specs.NamedAttributes.{is_name_of, PassesOthers}
use Rattle.gimli_dwarf.specs.AttributeValues.{RawAttribute}
use Rattle.gimli_units_forms.specs.AttributeReading as forms
use Rattle.gimli_units_forms.specs.AttributeReading.{final_form, raw_attribute, attribute_in_form, value_in_form}
use Rattle.addr2line_names.specs.EntryNamings.{attributes_from}
use Rattle.addr2line_names.specs.PassedAttributes.{is_naming, BeginsWithName, IsNoName, Passes, PassesToFault}
use Rattle.addr2line_names.proofs.NamingSteps.{attributes_first, attributes_refused}

-- ---- the name of an attribute

-- an attribute has the name of its declaration
in_form : (limit : ℕ) (e : Encoding) (s : Attribute) (v w : View) (a : RawAttribute) (form : ℕ)
    → attribute_in_form limit e s form v ≡ Ok (a, w) → a.name ≡ s.name
in_form limit e s v w a form h =
    let b = begins (value_in_form limit e s form v) (λ x. give (raw_attribute s.name form x)) a w h in
    sym (ap (λ (b : RawAttribute). b.name) (value_is (raw_attribute s.name form b.0) a b.1 w b.3))

named : (limit : ℕ) (e : Encoding) (s : Attribute) (v w : View) (a : RawAttribute)
    → forms.attribute limit e s v ≡ Ok (a, w) → a.name ≡ s.name
unfolding forms.attribute
named limit e s v w a h =
    let b = begins (final_form s.form v) (λ form. attribute_in_form limit e s form) a w h in
    in_form limit e s b.1 w a b.0 b.3

named_in_walk : (limit : ℕ) (s : Attribute) (w after : Walk) (a : RawAttribute) (r : Result (RawAttribute × View) Error)
    → forms.attribute limit w.encoding s w.rest ≡ r → read_in_walk w r ≡ Ok (a, after) → a.name ≡ s.name
named_in_walk limit s w after a (Ok r) reads h =
    sym (ap (λ (b : RawAttribute). b.name) (value_is r.0 a (entries.walk_with_rest r.1 w) after h))
    ∙ named limit w.encoding s w.rest r.1 r.0 reads
named_in_walk limit s w after a (Err e) reads h = absurd cc

value_named : (limit : ℕ) (s : Attribute) (w after : Walk) (a : RawAttribute)
    → entries.value limit s w ≡ Ok (a, after) → a.name ≡ s.name
unfolding entries.value
value_named limit s w after a h =
    named_in_walk limit s w after a (forms.attribute limit w.encoding s w.rest) refl h

-- ---- several that are skipped

-- the attributes of two lists of declarations
from_append : (limit : ℕ) (w : Walk) (first left : List Attribute) (v u : View) (passed : List RawAttribute)
    → forms.attributes limit w.encoding first v ≡ Ok (passed, u)
    → attributes_from limit (first ++ left) (walk_with_rest v w)
    ≡ prepend passed (attributes_from limit left (walk_with_rest u w))
unfolding forms.attributes entries.value
from_append limit w [] left v u passed h =
    ap (λ (xs : List RawAttribute). prepend xs (attributes_from limit left (walk_with_rest v w)))
    (value_is [] passed v u h)
    ∙ ap (λ (t : View). prepend passed (attributes_from limit left (walk_with_rest t w))) (state_is [] passed v u h)
from_append limit w (s ∷ ss) left v u passed h =
    let b = begins (forms.attribute limit w.encoding s v)
    (λ a t. proceed (forms.attributes limit w.encoding ss t) (λ more. give (a ∷ more))) passed u h in
    let c = begins (forms.attributes limit w.encoding ss b.1) (λ more. give (b.0 ∷ more)) passed u b.3 in
    attributes_first limit s (ss ++ left) (walk_with_rest v w) (walk_with_rest b.1 w) b.0
    (ap (read_in_walk (walk_with_rest v w)) b.2)
    ∙ ap (prepend (b.0 ∷ [])) (from_append limit w ss left b.1 c.1 c.0 c.2)
    ∙ ap (λ (xs : List RawAttribute). prepend xs (attributes_from limit left (walk_with_rest c.1 w)))
    (value_is (b.0 ∷ c.0) passed c.1 u c.3)
    ∙ ap (λ (t : View). prepend passed (attributes_from limit left (walk_with_rest t w)))
    (state_is (b.0 ∷ c.0) passed c.1 u c.3)

are_nameless : (names : _) (xs : List RawAttribute) → ((n : ℕ) → is_name_of names n ≡ is_naming n)
    → All (λ a. is_name_of names a.name ≡ false) xs → All IsNoName xs
are_nameless names [] same others = All-nil IsNoName
are_nameless names (a ∷ xs) same others =
    let P = λ (b : RawAttribute). is_name_of names b.name ≡ false in
    All-cons IsNoName a xs (sym (same a.name) ∙ All-head P a xs others)
    (are_nameless names xs same (All-tail P a xs others))

-- attributes with other names than those that names are made of
pub passes_others : (limit : ℕ) (names : _) (all left : List Attribute) (old new : Walk)
    → ((n : ℕ) → is_name_of names n ≡ is_naming n) → PassesOthers names (entries.values limit) all old left new
    → Passes limit all old left new
unfolding entries.values
passes_others limit names all left old new same p = record {
  passed = p.passed;
  nameless = are_nameless names p.passed same p.others;
  same = ap (λ (ss : List Attribute). attributes_from limit ss old) (sym p.divided)
      ∙ by_read (forms.attributes limit old.encoding p.first old.rest) refl p.reads;
}
  where
    by_read : (r : Result (List RawAttribute × View) Error)
        → forms.attributes limit old.encoding p.first old.rest ≡ r → read_in_walk old r ≡ Ok (p.passed, new)
        → attributes_from limit (p.first ++ left) old ≡ prepend p.passed (attributes_from limit left new)
    by_read (Ok r) reads h =
        from_append limit old p.first left old.rest r.1 r.0 reads
        ∙ ap (λ (xs : List RawAttribute). prepend xs (attributes_from limit left (walk_with_rest r.1 old)))
        (value_is r.0 p.passed (walk_with_rest r.1 old) new h)
        ∙ ap (λ (w : Walk). prepend p.passed (attributes_from limit left w))
        (state_is r.0 p.passed (walk_with_rest r.1 old) new h)
    by_read (Err e) reads h = absurd cc

-- ---- one more that is passed

module _ (limit : ℕ) (all : List Attribute) (old : Walk) where
  -- after some, others are passed too
  pub passes_on : (ss left : List Attribute) (w new : Walk) → Passes limit all old ss w → Passes limit ss w left new
      → Passes limit all old left new
  passes_on ss left w new p q =
      let rest = attributes_from limit left new in
      record {
        passed = p.passed ++ q.passed;
        nameless = All-append IsNoName p.passed q.passed p.nameless q.nameless;
        same = p.same ∙ ap (prepend p.passed) q.same
            ∙ ap (λ (items : List RawAttribute). record { items = items; ending = rest.ending })
            (sym (append_assoc p.passed q.passed rest.items));
      }

  passes_more : (s : Attribute) (ss : List Attribute) (w after : Walk) (a : RawAttribute)
      → Passes limit all old (s ∷ ss) w → entries.value limit s w ≡ Ok (a, after) → is_naming s.name ≡ false
      → Passes limit all old ss after
  passes_more s ss w after a p reads apart =
      let rest = attributes_from limit ss after in
      let nameless : is_naming a.name ≡ false = ap is_naming (value_named limit s w after a reads) ∙ apart in
      record {
        passed = p.passed ++ a ∷ [];
        nameless = All-push IsNoName p.passed a p.nameless nameless;
        same = p.same ∙ ap (prepend p.passed) (attributes_first limit s ss w after a reads)
            ∙ ap (λ (items : List RawAttribute). record { items = items; ending = rest.ending })
            (sym (append_assoc p.passed (a ∷ []) rest.items));
      }

  passes_to_fault : (s : Attribute) (ss : List Attribute) (w : Walk) (e : Error)
      → Passes limit all old (s ∷ ss) w → entries.value limit s w ≡ Err e → PassesToFault limit all old e
  passes_to_fault s ss w e p refuses = record {
    passed = p.passed;
    nameless = p.nameless;
    same = p.same ∙ ap (prepend p.passed) (attributes_refused limit s ss w e refuses)
        ∙ ap (λ (items : List RawAttribute). record { items = items; ending = Err e }) (append-nil p.passed);
  }

  -- ---- the same from the first of a list on

  module _ {X : Type 0} (view : X → Attribute) where
    first_is : (xs : List X) (d : X) → 0 < length xs → map view xs ≡ view (get_or xs 0 d) ∷ map view (drop 1 xs)
    first_is xs d some = at_drop_more (λ (ys : List X). map view ys) xs 0 d some

    rest_is : (xs : List X) → take (length xs - 1) (drop 1 xs) ≡ drop 1 xs
    rest_is xs = take_all (length xs - 1) (drop 1 xs) (omega (arith, length-drop 1 xs))

    pub passes_left-more : (xs : List X) (d : X) (w after : Walk) (a : RawAttribute) → 0 < length xs
        → Passes limit all old (map view xs) w → entries.value limit (view (get_or xs 0 d)) w ≡ Ok (a, after)
        → is_naming (view (get_or xs 0 d)).name ≡ false
        → Passes limit all old (map view (take (length xs - 1) (drop 1 xs))) after
    passes_left-more xs d w after a some p reads apart =
        subst (λ (ys : List X). Passes limit all old (map view ys) after) (sym (rest_is xs))
        (passes_more (view (get_or xs 0 d)) (map view (drop 1 xs)) w after a
        (subst (λ (ss : List Attribute). Passes limit all old ss w) (first_is xs d some) p) reads apart)

    pub passes_left-fault : (xs : List X) (d : X) (w : Walk) (e : Error) → 0 < length xs
        → Passes limit all old (map view xs) w → entries.value limit (view (get_or xs 0 d)) w ≡ Err e
        → PassesToFault limit all old e
    passes_left-fault xs d w e some p refuses =
        passes_to_fault (view (get_or xs 0 d)) (map view (drop 1 xs)) w e
        (subst (λ (ss : List Attribute). Passes limit all old ss w) (first_is xs d some) p) refuses

-- ---- what is left

module _ {X : Type 0} (view : X → Attribute) where
  pub begins_with_name : (xs : List X) (d : X) → 0 < length xs → is_naming (view (get_or xs 0 d)).name ≡ true
      → BeginsWithName (map view xs)
  begins_with_name [] d some named = absurd (omega arith)
  begins_with_name (x ∷ xs) d some named = named

  pub begins_with_none : (xs : List X) → length xs < 1 → BeginsWithName (map view xs)
  begins_with_none [] none = tt
  begins_with_none (x ∷ xs) none = absurd (omega arith)
