-- The naming of an entry, found by a loop over its attributes.
use Rattle.std.proofs.Common.{◌≡◌, ℕ, ◌-◌, ◌<◌, Bool, true, false, ◌||◌, List, [], ◌∷◌, length, get_or, take, drop, map, Option, Some, None, Result, Ok, Err, refl, sym, ap, subst, ◌∙◌, arith, length-drop}
use Rattle.std.specs.Prelude.{All}
use Rattle.std.specs.List.{filter_map, last_or, cons_option}
use Rattle.std.proofs.lemmas.List.{append-nil, at_drop_more, take_all}
use Rattle.std.proofs.lemmas.List.Elements.{All-head, All-tail}
use Rattle.gimli_dwarf.specs.Error.{Error}
use Rattle.gimli_dwarf.specs.Repetition.{Listing, prepend, fault_of}
use Rattle.gimli_dwarf.specs.View.{View}
use Rattle.gimli_dwarf.specs.Declarations.{Attribute}
use Rattle.gimli_dwarf.specs.EntryWalks.{Walk, value}
use Rattle.gimli_dwarf.specs.AttributeValues.{RawValue, RawAttribute}
use Rattle.gimli_dwarf.specs.UnitFacts.{is_name, value_of_kind, any_value}
use Rattle.addr2line_names.specs.EntryReferences.{HoldingUnit}
use Rattle.addr2line_names.specs.EntryNamings.{EntryNaming, by_name, by_reference, nameless, is_linkage_name, is_reference, text_of, first_of, attribute_and_rest, attributes_from, name_or_naming, reference_or_nameless, reference_or, linkage_name_or, naming_with}
use Rattle.addr2line_names.specs.PassedAttributes.{IsNoName, Passes, PassesToFault}

-- ---- attributes laid end to end

-- the first can be read
pub attributes_first : (limit : ℕ) (s : Attribute) (ss : List Attribute) (w after : Walk) (a : RawAttribute)
    → value limit s w ≡ Ok (a, after)
    → attributes_from limit (s ∷ ss) w
    ≡ record
    { items = a ∷ (attributes_from limit ss after).items; ending = (attributes_from limit ss after).ending }
unfolding attributes_from
attributes_first limit s ss w after a h =
    ap (λ (r : Result (RawAttribute × Walk) Error). attribute_and_rest r (attributes_from limit ss)) h

-- it can't
pub attributes_refused : (limit : ℕ) (s : Attribute) (ss : List Attribute) (w : Walk) (e : Error)
    → value limit s w ≡ Err e → attributes_from limit (s ∷ ss) w ≡ record { items = []; ending = Err e }
unfolding attributes_from
attributes_refused limit s ss w e h =
    ap (λ (r : Result (RawAttribute × Walk) Error). attribute_and_rest r (attributes_from limit ss)) h

-- there is none
attributes_none : (limit : ℕ) (w : Walk) → attributes_from limit [] w ≡ record { items = []; ending = Ok w }
unfolding attributes_from
attributes_none limit w = refl

-- ---- one attribute that is no linkage name

abbrev pub name_in : EntryNaming → Option View
name_in (by_name name) = Some name
name_in _ = None

abbrev pub reference_in : EntryNaming → Option RawValue
reference_in (by_reference v) = Some v
reference_in _ = None

-- the naming so far, and then further names and references
abbrev pub naming_and_more : EntryNaming → List View → List RawValue → EntryNaming
naming_and_more found names references =
    name_or_naming (last_or (name_in found) names) (reference_or_nameless (last_or (reference_in found) references))

-- with a name, references don't count
name_stays : (name : View) (names : List View) (m n : EntryNaming)
    → name_or_naming (last_or (Some name) names) m ≡ name_or_naming (last_or (Some name) names) n
name_stays name [] m n = refl
name_stays name (x ∷ names) m n = name_stays x names m n

-- the naming so far, with an attribute's name and reference
abbrev with_both : EntryNaming → Option View → Option RawValue → EntryNaming
with_both (by_name name) here reference = name_or_naming here (by_name name)
with_both found here reference = name_or_naming here (reference_or reference found)

both : (found : EntryNaming) (here : Option View) (reference : Option RawValue) (names : List View)
    (references : List RawValue)
    → naming_and_more (with_both found here reference) names references
    ≡ naming_and_more found (cons_option here names) (cons_option reference references)
both (by_name name) None reference names references =
    name_stays name names (reference_or_nameless (last_or None references))
    (reference_or_nameless (last_or None (cons_option reference references)))
both (by_name name) (Some x) reference names references =
    name_stays x names (reference_or_nameless (last_or None references))
    (reference_or_nameless (last_or None (cons_option reference references)))
both (by_reference v) None None names references = refl
both (by_reference v) None (Some w) names references = refl
both (by_reference v) (Some x) reference names references =
    name_stays x names (reference_or_nameless (last_or None references))
    (reference_or_nameless (last_or (Some v) (cons_option reference references)))
both nameless None None names references = refl
both nameless None (Some w) names references = refl
both nameless (Some x) reference names references =
    name_stays x names (reference_or_nameless (last_or None references))
    (reference_or_nameless (last_or None (cons_option reference references)))

naming_and_nothing : (found : EntryNaming) → naming_and_more found [] [] ≡ found
naming_and_nothing (by_name name) = refl
naming_and_nothing (by_reference v) = refl
naming_and_nothing nameless = refl

module _ (limit : ℕ) (h : HoldingUnit) where
  abbrev linkage_name : RawAttribute → Option View
  linkage_name a = value_of_kind (text_of h) is_linkage_name a

  abbrev plain_name : RawAttribute → Option View
  plain_name a = value_of_kind (text_of h) is_name a

  abbrev reference : RawAttribute → Option RawValue
  reference a = value_of_kind any_value is_reference a

  with_one : (found : EntryNaming) (a : RawAttribute)
      → naming_with h found a ≡ with_both found (plain_name a) (reference a)
  with_one (by_name name) a = refl
  with_one (by_reference v) a = refl
  with_one nameless a = refl

  -- ---- a listing

  -- the naming so far, with that of a listing of attributes
  abbrev pub naming_from : EntryNaming → Listing Walk RawAttribute → Result EntryNaming Error
  naming_from found l =
      linkage_name_or (first_of (filter_map linkage_name l.items)) (fault_of l)
      (naming_and_more found (filter_map plain_name l.items) (filter_map reference l.items))

  -- an attribute before the others, which is no linkage name
  not_linkage : (found : EntryNaming) (a : RawAttribute) (l : Listing Walk RawAttribute) (here : Option View)
      → linkage_name a ≡ here → here ≡ None
      → naming_from found (record { items = a ∷ l.items; ending = l.ending })
      ≡ naming_from (naming_with h found a) l
  not_linkage found a l here is none =
      ap (λ (o : Option View). linkage_name_or (first_of (cons_option o (filter_map linkage_name l.items))) (fault_of l)
      (naming_and_more found (filter_map plain_name (a ∷ l.items)) (filter_map reference (a ∷ l.items)))) (is ∙ none)
      ∙ ap (λ (n : EntryNaming). linkage_name_or (first_of (filter_map linkage_name l.items)) (fault_of l) n)
      (sym (both found (plain_name a) (reference a) (filter_map plain_name l.items) (filter_map reference l.items))
      ∙ ap (λ (n : EntryNaming). naming_and_more n (filter_map plain_name l.items) (filter_map reference l.items))
      (sym (with_one found a)))

  -- one that is
  is_linkage : (found : EntryNaming) (a : RawAttribute) (l : Listing Walk RawAttribute) (name : View)
      → linkage_name a ≡ Some name
      → naming_from found (record { items = a ∷ l.items; ending = l.ending }) ≡ Ok (by_name name)
  is_linkage found a l name is =
      ap (λ (o : Option View). linkage_name_or (first_of (cons_option o (filter_map linkage_name l.items))) (fault_of l)
      (naming_and_more found (filter_map plain_name (a ∷ l.items)) (filter_map reference (a ∷ l.items)))) is

  -- a fault after some attributes
  abbrev at_fault : Error → List RawAttribute → Listing Walk RawAttribute
  at_fault e items = record { items = items; ending = Err e }

  abbrev ok_name : Option View → Result (Option View) Error
  ok_name name = Ok name

  abbrev ok_naming : EntryNaming → Result EntryNaming Error
  ok_naming n = Ok n

  -- ---- attributes of which no name is made

  not_naming : (x y z : Bool) → (x || (y || z)) ≡ false → (x ≡ false) × (y ≡ false) × (z ≡ false)
  not_naming true y z none = absurd cc
  not_naming false true z none = absurd cc
  not_naming false false true none = absurd cc
  not_naming false false false none = (refl, refl, refl)

  found_stays : (found : EntryNaming) (a : RawAttribute) → is_name a.name ≡ false → is_reference a.name ≡ false
      → naming_with h found a ≡ found
  found_stays (by_name name) a no_name no_reference = rw no_name refl
  found_stays (by_reference v) a no_name no_reference = rw (no_name, no_reference) refl
  found_stays nameless a no_name no_reference = rw (no_name, no_reference) refl

  pub naming_from-passed : (found : EntryNaming) (passed : List RawAttribute) (l : Listing Walk RawAttribute)
      → All IsNoName passed → naming_from found (prepend passed l) ≡ naming_from found l
  naming_from-passed found [] l none = refl
  naming_from-passed found (a ∷ more) l none =
      let no =
      not_naming (is_name a.name) (is_reference a.name) (is_linkage_name a.name) (All-head IsNoName a more none) in
      let no_linkage : linkage_name a ≡ None = rw no.2 refl in
      not_linkage found a (prepend more l) (linkage_name a) refl no_linkage
      ∙ ap (λ (n : EntryNaming). naming_from n (prepend more l)) (found_stays found a no.0 no.1)
      ∙ naming_from-passed found more l (All-tail IsNoName a more none)

  -- the naming of all is that of the others
  pub passed-naming : (found : EntryNaming) (all others : List Attribute) (w new : Walk)
      → Passes limit all w others new
      → naming_from found (attributes_from limit others new) ≡ naming_from found (attributes_from limit all w)
  passed-naming found all others w new p =
      sym (ap (naming_from found) p.same
      ∙ naming_from-passed found p.passed (attributes_from limit others new) p.nameless)

  -- a fault after them is that of all
  pub passed-fault : (found : EntryNaming) (all : List Attribute) (w : Walk) (e : Error)
      (whole : Result EntryNaming Error)
      → PassesToFault limit all w e → naming_from found (attributes_from limit all w) ≡ whole → whole ≡ Err e
  passed-fault found all w e whole p before =
      sym before ∙ ap (naming_from found) (p.same ∙ ap (at_fault e) (sym (append-nil p.passed)))
      ∙ naming_from-passed found p.passed (at_fault e []) p.nameless

  -- ---- from the first of the others on

  -- after an attribute that is no linkage name, the naming of all is the same
  naming_from-more :
      (found next : EntryNaming) (s : Attribute) (ss others : List Attribute) (w after new : Walk) (a : RawAttribute)
      (o : Option View) (whole : Result EntryNaming Error)
      → value limit s w ≡ Ok (a, after) → ok_name (linkage_name a) ≡ ok_name o → o ≡ None
      → ok_naming (naming_with h found a) ≡ ok_naming next → Passes limit ss after others new
      → naming_from found (attributes_from limit (s ∷ ss) w) ≡ whole
      → naming_from next (attributes_from limit others new) ≡ whole
  naming_from-more found next s ss others w after new a o whole reads gives none takes passes before =
      let no_name : linkage_name a ≡ None = cc in
      let same : naming_with h found a ≡ next = cc in
      passed-naming next ss others after new passes
      ∙ ap (λ (n : EntryNaming). naming_from n (attributes_from limit ss after)) (sym same)
      ∙ sym (not_linkage found a (attributes_from limit ss after) (linkage_name a) refl no_name)
      ∙ sym (ap (naming_from found) (attributes_first limit s ss w after a reads))
      ∙ before

  -- a linkage name is the naming of all
  naming_from-linkage :
      (found : EntryNaming) (name : View) (s : Attribute) (ss : List Attribute) (w after : Walk) (a : RawAttribute)
      (o : Option View) (whole : Result EntryNaming Error)
      → value limit s w ≡ Ok (a, after) → ok_name (linkage_name a) ≡ ok_name o → o ≡ Some name
      → naming_from found (attributes_from limit (s ∷ ss) w) ≡ whole → whole ≡ ok_naming (by_name name)
  naming_from-linkage found name s ss w after a o whole reads gives is before =
      let linkage : linkage_name a ≡ Some name = cc in
      sym before ∙ ap (naming_from found) (attributes_first limit s ss w after a reads)
      ∙ is_linkage found a (attributes_from limit ss after) name linkage

  -- a fault is that of all
  naming_from-refused :
      (found : EntryNaming) (s : Attribute) (ss : List Attribute) (w : Walk) (e : Error)
      (whole : Result EntryNaming Error) → value limit s w ≡ Err e
      → naming_from found (attributes_from limit (s ∷ ss) w) ≡ whole → whole ≡ Err e
  naming_from-refused found s ss w e whole refuses before =
      sym before ∙ ap (naming_from found) (attributes_refused limit s ss w e refuses)

  -- after the last attribute, it is the naming so far
  naming_from-end : (found : EntryNaming) (w : Walk) (whole : Result EntryNaming Error)
      → naming_from found (attributes_from limit [] w) ≡ whole → whole ≡ ok_naming found
  naming_from-end found w whole before =
      sym before ∙ ap (naming_from found) (attributes_none limit w) ∙ ap ok_naming (naming_and_nothing found)

  -- ---- the same from the first of a list on

  module _ {X : Type 0} (view : X → Attribute) where
    with_first : (found : EntryNaming) (xs : List X) (d : X) (w : Walk) (whole : Result EntryNaming Error)
        → 0 < length xs → naming_from found (attributes_from limit (map view xs) w) ≡ whole
        → naming_from found (attributes_from limit (view (get_or xs 0 d) ∷ map view (drop 1 xs)) w) ≡ whole
    with_first found xs d w whole some before =
        sym (at_drop_more (λ (ys : List X). naming_from found (attributes_from limit (map view ys) w)) xs 0 d some)
        ∙ before

    -- what a pattern leaves of a list after its first is all of the rest
    rest_is : (xs : List X) → take (length xs - 1) (drop 1 xs) ≡ drop 1 xs
    rest_is xs = take_all (length xs - 1) (drop 1 xs) (omega (arith, length-drop 1 xs))

    pub naming_of_left-more :
        (found next : EntryNaming) (xs : List X) (d : X) (others : List Attribute) (w after new : Walk)
        (a : RawAttribute) (o : Option View) (whole : Result EntryNaming Error) → 0 < length xs
        → value limit (view (get_or xs 0 d)) w ≡ Ok (a, after) → ok_name (linkage_name a) ≡ ok_name o → o ≡ None
        → ok_naming (naming_with h found a) ≡ ok_naming next
        → Passes limit (map view (take (length xs - 1) (drop 1 xs))) after others new
        → naming_from found (attributes_from limit (map view xs) w) ≡ whole
        → naming_from next (attributes_from limit others new) ≡ whole
    naming_of_left-more found next xs d others w after new a o whole some reads gives none takes passes before =
        let first = view (get_or xs 0 d) in
        naming_from-more found next first (map view (drop 1 xs)) others w after new a o whole reads gives none takes
        (subst (λ (ys : List X). Passes limit (map view ys) after others new) (rest_is xs) passes)
        (with_first found xs d w whole some before)

    -- a fault among the attributes that are passed after it is that of all
    pub naming_of_left-fault :
        (found : EntryNaming) (xs : List X) (d : X) (w after : Walk) (a : RawAttribute) (o : Option View) (e : Error)
        (whole : Result EntryNaming Error) → 0 < length xs
        → value limit (view (get_or xs 0 d)) w ≡ Ok (a, after) → ok_name (linkage_name a) ≡ ok_name o → o ≡ None
        → PassesToFault limit (map view (take (length xs - 1) (drop 1 xs))) after e
        → naming_from found (attributes_from limit (map view xs) w) ≡ whole → whole ≡ Err e
    naming_of_left-fault found xs d w after a o e whole some reads gives none p before =
        let first = view (get_or xs 0 d) in
        let ss = map view (drop 1 xs) in
        let no_name : linkage_name a ≡ None = cc in
        passed-fault (naming_with h found a) ss after e whole
        (subst (λ (ys : List X). PassesToFault limit (map view ys) after e) (rest_is xs) p)
        (sym (not_linkage found a (attributes_from limit ss after) (linkage_name a) refl no_name)
        ∙ sym (ap (naming_from found) (attributes_first limit first ss w after a reads))
        ∙ with_first found xs d w whole some before)

    pub naming_of_left-linkage :
        (found : EntryNaming) (name : View) (xs : List X) (d : X) (w after : Walk) (a : RawAttribute)
        (o : Option View) (whole : Result EntryNaming Error) → 0 < length xs
        → value limit (view (get_or xs 0 d)) w ≡ Ok (a, after) → ok_name (linkage_name a) ≡ ok_name o → o ≡ Some name
        → naming_from found (attributes_from limit (map view xs) w) ≡ whole → whole ≡ ok_naming (by_name name)
    naming_of_left-linkage found name xs d w after a o whole some reads gives is before =
        naming_from-linkage found name (view (get_or xs 0 d)) (map view (drop 1 xs)) w after a o whole reads gives is
        (with_first found xs d w whole some before)

    pub naming_of_left-refused :
        (found : EntryNaming) (xs : List X) (d : X) (w : Walk) (e : Error) (whole : Result EntryNaming Error)
        → 0 < length xs → value limit (view (get_or xs 0 d)) w ≡ Err e
        → naming_from found (attributes_from limit (map view xs) w) ≡ whole → whole ≡ Err e
    naming_of_left-refused found xs d w e whole some refuses before =
        naming_from-refused found (view (get_or xs 0 d)) (map view (drop 1 xs)) w e whole refuses
        (with_first found xs d w whole some before)

    pub naming_of_left-end : (found : EntryNaming) (xs : List X) (w : Walk) (whole : Result EntryNaming Error)
        → length xs < 1 → naming_from found (attributes_from limit (map view xs) w) ≡ whole → whole ≡ ok_naming found
    naming_of_left-end found [] w whole none before = naming_from-end found w whole before
    naming_of_left-end found (x ∷ xs) w whole none before = absurd (omega arith)
