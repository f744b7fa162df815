-- The attributes of some names: how they go on by one that is read, or skipped.
use Rattle.std.proofs.Common.{◌≡◌, ℕ, ◌+◌, ◌-◌, ◌<◌, ◌≤◌, Bool, true, false, cond, List, [], ◌∷◌, ◌++◌, length, map, get_or, take, drop, Result, Ok, Err, refl, sym, ap, ◌∙◌, arith, length-drop, append_assoc, append-nil}
use Rattle.std.specs.Prelude.{◌||◌}
use Rattle.std.specs.List.{list_any}
use Rattle.std.proofs.lemmas.List.{at_drop_more, take_all, take-append-le, take-map, length-append, length-map}
use Rattle.std.proofs.lemmas.List.Elements.{filter-append}
use Rattle.gimli_core_base.specs.declared.error.Error.{Error}
use Rattle.gimli_core_base.specs.declared.common.Encoding.{Encoding}
use Rattle.gimli_core_base.specs.declared.constants.DwAt.{DwAt}
use Rattle.gimli_core_base.specs.View.{View, after}
use Rattle.gimli_core_base.specs.Parsers.{proceed, give, map_value}
use Rattle.gimli_core_base.proofs.StepParts.{begins, value_is, state_is, read}
use Rattle.gimli_core_base.proofs.Times.{prepend}
use Rattle.gimli_units_forms.specs.Declarations.{Attribute}
use Rattle.gimli_units_forms.specs.AttributeReading.{attribute, attributes, attribute_in_form, value_in_form, raw_attribute}
use Rattle.gimli_units_forms.specs.AttributeReading as forms
use Rattle.gimli_units_forms.specs.AttributeValues.{RawAttribute}
use Rattle.gimli_units_forms.specs.Places.{IsAfter}
use Rattle.gimli_units_forms.proofs.FormSizes.{attributes-after}
use Rattle.gimli_units_entries.specs.EntryWalks.{Walk, values, walk_with_rest, read_in_walk}
use Rattle.gimli_units_entries.specs.NamedAttributes.{is_name_of, of_names, named_attributes, named_values}

abbrev pub Attributes : Type 0
Attributes = Result (List RawAttribute × View) Error

-- ---- results

pub prepend-none : (r : Attributes) → prepend [] r ≡ r
prepend-none (Ok r) = refl
prepend-none (Err e) = refl

-- before any is read
pub prepend-first : {X : Type 0} (view : X → RawAttribute) (xs : List X) (r whole : Attributes) → xs ≡ [] → r ≡ whole
    → prepend (map view xs) r ≡ whole
prepend-first view xs r whole none same = ap (λ ys. prepend (map view ys) r) none ∙ prepend-none r ∙ same

pub prepend-prepend : (xs ys : List RawAttribute) (r : Attributes) → prepend xs (prepend ys r) ≡ prepend (xs ++ ys) r
prepend-prepend xs ys (Ok r) = ap (λ (all : List RawAttribute). read all r.1) (sym (append_assoc xs ys r.0))
prepend-prepend xs ys (Err e) = refl

-- an attribute has its declaration's name
pub attribute-name : (limit : ℕ) (e : Encoding) (s : Attribute) (v w : View) (a : RawAttribute)
    → attribute limit e s v ≡ Ok (a, w) → s.name ≡ a.name
unfolding attribute
attribute-name limit e s v w a h =
    let f = begins (forms.final_form s.form v) (attribute_in_form limit e s) a w h in
    let x = begins (value_in_form limit e s f.0 f.1) (λ y. give (raw_attribute s.name f.0 y)) a w f.3 in
    ap (λ (b : RawAttribute). b.name) (value_is (raw_attribute s.name f.0 x.0) a x.1 w x.3)

-- a list without the one that was added
without_last : {X : Type 0} (view : X → RawAttribute) (before now less : List X) (a : RawAttribute) (n : ℕ)
    → map view before ++ a ∷ [] ≡ map view now → n ≡ length now → less ≡ take (n - 1) now
    → map view before ≡ map view less
without_last view before now less a n made count is =
    let longer : length (map view now) ≡ length (map view before) + 1 =
    ap length (sym made) ∙ length-append (map view before) (a ∷ []) in
    let fewer : n - 1 ≡ length (map view before) = omega (arith, count, longer, length-map now view) in
    sym (take_all (length (map view before)) (map view before) (omega arith))
    ∙ sym (take-append-le (length (map view before)) (map view before) (a ∷ []) (omega arith))
    ∙ ap (take (length (map view before))) made
    ∙ take-map view (length (map view before)) now
    ∙ ap (λ (k : ℕ). map view (take k now)) (sym fewer)
    ∙ ap (map view) (sym is)

module _ (limit : ℕ) (names : List DwAt) (e : Encoding) where
  -- those of the names, with an attribute before the others
  first_of_names : (a : RawAttribute) (r : Attributes)
      → proceed (proceed r (λ ys. give (a ∷ ys))) (λ all. give (of_names names all))
      ≡ prepend (of_names names (a ∷ [])) (proceed r (λ all. give (of_names names all)))
  first_of_names a (Ok r) =
      ap (λ (all : List RawAttribute). read all r.1) (filter-append (λ b. is_name_of names b.name) (a ∷ []) r.0)
  first_of_names a (Err d) = refl

  abbrev all_read : List Attribute → Result (RawAttribute × View) Error → Attributes
  all_read ss r =
      proceed (proceed r (λ y u. proceed (attributes limit e ss u) (λ ys. give (y ∷ ys))))
      (λ all. give (of_names names all))

  -- an attribute that is read comes before the others
  named-first : (s : Attribute) (ss : List Attribute) (v w : View) (a : RawAttribute)
      → attribute limit e s v ≡ Ok (a, w)
      → named_attributes limit names e (s ∷ ss) v
      ≡ prepend (of_names names (a ∷ [])) (named_attributes limit names e ss w)
  unfolding attributes
  named-first s ss v w a h = ap (all_read ss) h ∙ first_of_names a (attributes limit e ss w)

  named-fault : (s : Attribute) (ss : List Attribute) (v : View) (d : Error) → attribute limit e s v ≡ Err d
      → named_attributes limit names e (s ∷ ss) v ≡ Err d
  unfolding attributes
  named-fault s ss v d h = ap (all_read ss) h

  named-none : (v : View) → named_attributes limit names e [] v ≡ read [] v
  unfolding attributes
  named-none v = refl

  -- one of another name is dropped
  named-other : (s : Attribute) (ss : List Attribute) (v w : View) (a : RawAttribute)
      → attribute limit e s v ≡ Ok (a, w) → is_name_of names s.name ≡ false
      → named_attributes limit names e (s ∷ ss) v ≡ named_attributes limit names e ss w
  named-other s ss v w a h other =
      let name = ap (is_name_of names) (sym (attribute-name limit e s v w a h)) ∙ other in
      named-first s ss v w a h
      ∙ ap (λ (b : Bool). prepend (cond b (a ∷ []) []) (named_attributes limit names e ss w)) name
      ∙ prepend-none (named_attributes limit names e ss w)

  abbrev of_name_test : Bool → RawAttribute → List RawAttribute
  of_name_test t a = cond t (a ∷ []) []

  -- whether an attribute that is read is kept, by its declaration's name
  kept_by_name : (s : Attribute) (v w : View) (a : RawAttribute) (t : Bool) → attribute limit e s v ≡ Ok (a, w)
      → is_name_of names s.name ≡ t → of_names names (a ∷ []) ≡ of_name_test t a
  kept_by_name s v w a t h is =
      ap (λ (b : Bool). of_name_test b a)
      (ap (is_name_of names) (sym (attribute-name limit e s v w a h)) ∙ is)

  -- those before, and one that is read if it is of one of the names
  abbrev with_named : List RawAttribute → Result (RawAttribute × View) Error → Attributes
  with_named before r = proceed r (λ a. give (before ++ of_names names (a ∷ [])))

  -- one of the names is added
  pub push-named : (s : Attribute) (before now : List RawAttribute) (v w : View) → is_name_of names s.name ≡ true
      → map_value (λ a. before ++ a ∷ []) (attribute limit e s) v ≡ Ok (now, w)
      → map_value (λ a. before ++ of_names names (a ∷ [])) (attribute limit e s) v ≡ Ok (now, w)
  push-named s before now v w is h =
      let b = begins (attribute limit e s v) (λ a. give (before ++ a ∷ [])) now w h in
      ap (with_named before) b.2
      ∙ ap (λ (one : List RawAttribute). read (before ++ one) b.1) (kept_by_name s v b.1 b.0 true b.2 is)
      ∙ b.3

  -- another is dropped again
  pub push-other : {X : Type 0} (view : X → RawAttribute) (s : Attribute) (before now less : List X) (n : ℕ)
      (v w : View) → is_name_of names s.name ≡ false
      → map_value (λ a. map view before ++ a ∷ []) (attribute limit e s) v ≡ Ok (map view now, w)
      → n ≡ length now → less ≡ take (n - 1) now
      → map_value (λ a. map view before ++ of_names names (a ∷ [])) (attribute limit e s) v ≡ Ok (map view less, w)
  push-other view s before now less n v w other h count is =
      let b = begins (attribute limit e s v) (λ a. give (map view before ++ a ∷ [])) (map view now) w h in
      let made = value_is (map view before ++ b.0 ∷ []) (map view now) b.1 w b.3 in
      ap (with_named (map view before)) b.2
      ∙ ap (λ (one : List RawAttribute). read (map view before ++ one) b.1) (kept_by_name s v b.1 b.0 false b.2 other)
      ∙ ap (λ (all : List RawAttribute). read all b.1)
      (append-nil (map view before) ∙ without_last view before now less b.0 n made count is)
      ∙ ap (λ (u : View). read (map view less) u) (state_is (map view before ++ b.0 ∷ []) (map view now) b.1 w b.3)

-- what is refused where a value is made of it was refused before
abbrev refusal : Error → Result (RawAttribute × View) Error
refusal d = Err d

fault_before : (r : Result (RawAttribute × View) Error) (f : RawAttribute → List RawAttribute) (d : Error)
    → proceed r (λ a. give (f a)) ≡ Err d → r ≡ Err d
fault_before (Ok r) f d h = absurd cc
fault_before (Err x) f d h = let is : x ≡ d = cc in ap refusal is

-- ---- from the first of a list on

-- what a pattern leaves of a list after its first is no longer
pub fewer_left : {X : Type 0} (xs : List X) (n : ℕ) → 0 < length xs → length xs ≤ n
    → length (take (length xs - 1) (drop 1 xs)) ≤ n
fewer_left xs n some fewer =
    let all = take_all (length xs - 1) (drop 1 xs) (omega (arith, length-drop 1 xs)) in
    let same = ap length all in
    omega (arith, same, length-drop 1 xs, fewer)

module _ {X : Type 0} (view : X → Attribute) where
  -- what a pattern leaves of a list after its first is all of the rest
  rest_is : (xs : List X) → take (length xs - 1) (drop 1 xs) ≡ drop 1 xs
  rest_is xs = take_all (length xs - 1) (drop 1 xs) (omega (arith, length-drop 1 xs))

  abbrev pub from_first : List X → X → List Attribute
  from_first xs d = view (get_or xs 0 d) ∷ map view (take (length xs - 1) (drop 1 xs))

  pub all_from_first : (xs : List X) (d : X) → 0 < length xs → map view xs ≡ from_first xs d
  all_from_first xs d some =
      at_drop_more (map view) xs 0 d some
      ∙ ap (λ (ys : List X). view (get_or xs 0 d) ∷ map view ys) (sym (rest_is xs))

  module _ (limit : ℕ) (names : List DwAt) (e : Encoding) where
    -- an attribute is read, and those of the names that follow are what is left
    pub named-more : (xs : List X) (d : X) (before now : List RawAttribute) (v w u : View)
        (others : List Attribute) (whole : Attributes) → 0 < length xs
        → map_value (λ a. before ++ of_names names (a ∷ [])) (attribute limit e (view (get_or xs 0 d))) v ≡ Ok (now, w)
        → named_attributes limit names e others u
        ≡ named_attributes limit names e (map view (take (length xs - 1) (drop 1 xs))) w
        → prepend before (named_attributes limit names e (map view xs) v) ≡ whole
        → prepend now (named_attributes limit names e others u) ≡ whole
    named-more xs d before now v w u others whole some reads same is =
        let s = view (get_or xs 0 d) in
        let ss = map view (take (length xs - 1) (drop 1 xs)) in
        let b = begins (attribute limit e s v) (λ a. give (before ++ of_names names (a ∷ []))) now w reads in
        let made = value_is (before ++ of_names names (b.0 ∷ [])) now b.1 w b.3 in
        let left = state_is (before ++ of_names names (b.0 ∷ [])) now b.1 w b.3 in
        ap (prepend now) (same ∙ ap (named_attributes limit names e ss) (sym left))
        ∙ ap (λ (all : List RawAttribute). prepend all (named_attributes limit names e ss b.1)) (sym made)
        ∙ sym (prepend-prepend before (of_names names (b.0 ∷ [])) (named_attributes limit names e ss b.1))
        ∙ ap (prepend before) (sym (named-first limit names e s ss v b.1 b.0 b.2))
        ∙ ap (λ (all : List Attribute). prepend before (named_attributes limit names e all v))
        (sym (all_from_first xs d some))
        ∙ is

    -- one that can't be read ends them
    pub named-stop : (xs : List X) (d : X) (before : List RawAttribute) (v : View) (fault : Error) (whole : Attributes)
        → 0 < length xs
        → map_value (λ a. before ++ of_names names (a ∷ [])) (attribute limit e (view (get_or xs 0 d))) v ≡ Err fault
        → prepend before (named_attributes limit names e (map view xs) v) ≡ whole → whole ≡ Err fault
    named-stop xs d before v fault whole some refused is =
        let s = view (get_or xs 0 d) in
        let ss = map view (take (length xs - 1) (drop 1 xs)) in
        sym is
        ∙ ap (λ (all : List Attribute). prepend before (named_attributes limit names e all v))
        (all_from_first xs d some)
        ∙ ap (prepend before)
        (named-fault limit names e s ss v fault
        (fault_before (attribute limit e s v) (λ a. before ++ of_names names (a ∷ [])) fault refused))

    -- after the last one, they are those so far
    pub named-end : (xs : List X) (before : List RawAttribute) (v : View) (whole : Attributes) → length xs < 1
        → prepend before (named_attributes limit names e (map view xs) v) ≡ whole → whole ≡ read before v
    named-end [] before v whole none is =
        sym is ∙ ap (prepend before) (named-none limit names e v)
        ∙ ap (λ (all : List RawAttribute). read all v) (append-nil before)
    named-end (x ∷ xs) before v whole none is = absurd (omega arith)

-- ---- places

-- what is left after them comes after some bytes
pub named-after : (limit : ℕ) (names : List DwAt) (e : Encoding) (ss : List Attribute) (v w : View)
    (all : List RawAttribute) → named_attributes limit names e ss v ≡ Ok (all, w) → IsAfter v w
named-after limit names e ss v w all h =
    let b = begins (attributes limit e ss v) (λ xs. give (of_names names xs)) all w h in
    attributes-after limit e ss v w b.0
    (b.2 ∙ ap (λ (u : View). read b.0 u) (state_is (of_names names b.0) all b.1 w b.3))

-- ---- walks

in_walk : (names : List DwAt) (w : Walk) (r : Attributes)
    → proceed (read_in_walk w r) (λ all. give (of_names names all))
    ≡ read_in_walk w (proceed r (λ all. give (of_names names all)))
in_walk names w (Ok r) = refl
in_walk names w (Err d) = refl

named_values-is : (limit : ℕ) (names : List DwAt) (ss : List Attribute) (w : Walk)
    → named_values limit names ss w ≡ read_in_walk w (named_attributes limit names w.encoding ss w.rest)
unfolding values
named_values-is limit names ss w = in_walk names w (attributes limit w.encoding ss w.rest)

-- attributes that are read from the walk's place on
pub named_values-read : (limit : ℕ) (names : List DwAt) (w w' : Walk) (ss : List Attribute) (n : ℕ)
    (all : List RawAttribute) (t : View) → w ≡ w'
    → named_attributes limit names w.encoding ss w.rest ≡ Ok (all, after n w.rest) → t ≡ after n w.rest
    → named_values limit names ss w' ≡ Ok (all, walk_with_rest t w)
named_values-read limit names w w' ss n all t same h e =
    ap (named_values limit names ss) (sym same) ∙ named_values-is limit names ss w
    ∙ ap (read_in_walk w) (h ∙ ap (λ (v : View). read all v) (sym e))

pub named_values-fault : (limit : ℕ) (names : List DwAt) (w w' : Walk) (ss : List Attribute) (d : Error) → w ≡ w'
    → named_attributes limit names w.encoding ss w.rest ≡ Err d → named_values limit names ss w' ≡ Err d
named_values-fault limit names w w' ss d same h =
    ap (named_values limit names ss) (sym same) ∙ named_values-is limit names ss w ∙ ap (read_in_walk w) h

-- ---- declarations of which none has one of the names

neither : (x y : Bool) → (x || y) ≡ false → (x ≡ false) × (y ≡ false)
neither true y none = absurd cc
neither false y none = (refl, none)

named_attributes-no_name : (limit : ℕ) (names : List DwAt) (e : Encoding) (ss : List Attribute) (v : View)
    → list_any (λ s. is_name_of names s.name) ss ≡ false
    → named_attributes limit names e ss v ≡ named_attributes limit [] e ss v
named_attributes-no_name limit names e [] v none = named-none limit names e v ∙ sym (named-none limit [] e v)
named_attributes-no_name limit names e (s ∷ ss) v none =
    by_first (attribute limit e s v) refl (neither _ _ none).0
    (λ w. named_attributes-no_name limit names e ss w (neither _ _ none).1)
  where
    by_first : (r : Result (RawAttribute × View) Error) → attribute limit e s v ≡ r → is_name_of names s.name ≡ false
        → ((w : View) → named_attributes limit names e ss w ≡ named_attributes limit [] e ss w)
        → named_attributes limit names e (s ∷ ss) v ≡ named_attributes limit [] e (s ∷ ss) v
    by_first (Ok r) h other again =
        named-other limit names e s ss v r.1 r.0 h other ∙ again r.1
        ∙ sym (named-other limit [] e s ss v r.1 r.0 h refl)
    by_first (Err d) h other again = named-fault limit names e s ss v d h ∙ sym (named-fault limit [] e s ss v d h)

-- then it is the same as by no names
pub named_values-no_name : (limit : ℕ) (names : List DwAt) (ss : List Attribute) (w : Walk)
    → list_any (λ s. is_name_of names s.name) ss ≡ false
    → named_values limit names ss w ≡ named_values limit [] ss w
named_values-no_name limit names ss w none =
    named_values-is limit names ss w
    ∙ ap (read_in_walk w) (named_attributes-no_name limit names w.encoding ss w.rest none)
    ∙ sym (named_values-is limit [] ss w)
