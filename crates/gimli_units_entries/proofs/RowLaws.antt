-- What holds of rows: how a choice of tags changes them, that each takes a byte, and that their offsets grow.
use Rattle.std.proofs.Common.{◌≡◌, ℕ, zero, suc, ◌+◌, ◌≤◌, ◌<◌, Bool, true, false, cond, eqb, List, [], ◌∷◌, length, map, get_or, Option, Some, None, Result, Ok, Err, refl, sym, ◌∙◌, ap, arith}
use Rattle.std.specs.List.Sorted.{IsStrictlyIncreasing}
use Rattle.gimli_core_base.specs.declared.error.Error.{Error}
use Rattle.gimli_core_base.specs.View.{View, bytes_left}
use Rattle.gimli_core_base.specs.Parsers.{Step, proceed, give}
use Rattle.gimli_core_base.specs.Repetition.{next_item, item_or_end, items_within, listing_in}
use Rattle.gimli_core_base.proofs.StepParts.{begins, read, value_is, state_is}
use Rattle.gimli_core_base.proofs.StepSizes.{Below, SomeBelow-None, SomeBelow-Ok, SomeBelow-cond, SomeBelow-proceed}
use Rattle.gimli_core_base.proofs.Listings.{Shrinks}
use Rattle.gimli_core_base.specs.declared.common.Encoding.{Encoding}
use Rattle.gimli_units_forms.specs.Declarations.{Attribute, Declaration}
use Rattle.gimli_units_forms.specs.AttributeValues.{RawAttribute}
use Rattle.gimli_units_forms.specs.AttributeReading as forms
use Rattle.gimli_units_forms.specs.AttributeSkipping as form_skips
use Rattle.gimli_units_forms.proofs.SkipAgreementLemmas.{skip_values-attributes}
use Rattle.gimli_units_headers.proofs.TilingLemmas.{listing_few}
use Rattle.gimli_units_entries.specs.EntryWalks.{Walk, IsWithin, read_in_walk, next_offset, entry_head, values, skip_values}
use Rattle.gimli_units_entries.specs.EntryRows.{Row, row_of, contents, all_contents, row, row_choosing, row_or_end, rows}
use Rattle.gimli_units_entries.specs.EntryLaws.{any_tag, row_under_choice}
use Rattle.gimli_units_entries.proofs.RowParts.{read_in_walk-Ok, contents_in, HasRow, row-parts, row-from, row-takes}

-- ---- skipping

pub skip_values-as_read : (limit : ℕ) (ss : List Attribute) (w t : Walk) (found : List RawAttribute)
    → values limit ss w ≡ Ok (found, t) → skip_values ss w ≡ Ok (tt, t)
unfolding values skip_values
skip_values-as_read limit ss w t found e =
    let c = read_in_walk-Ok w (forms.attributes limit w.encoding ss w.rest) found t e in
    ap (read_in_walk w) (skip_values-attributes limit w.encoding ss w.rest c.0 found c.1) ∙ ap (read tt) c.2

-- ---- a choice of tags

-- steps that go on in the same way answer the same
onward-alike : {S A B : Type 0} (r : Result (A × S) Error) (f g : A → Step S B) → ((x : A) (s : S) → f x s ≡ g x s)
    → proceed r f ≡ proceed r g
onward-alike (Ok p) f g h = h p.0 p.1
onward-alike (Err d) f g h = refl

contents-all : (limit : ℕ) (d : Option Declaration) (w : Walk) → contents limit any_tag d w ≡ all_contents limit d w
contents-all limit None w = refl
contents-all limit (Some d) w = refl

pub row-all : (limit : ℕ) (w : Walk) → row_choosing limit any_tag w ≡ row limit w
unfolding row row_choosing
row-all limit w =
    let row_with = λ (d : Option Declaration) (found : List RawAttribute). row_of (next_offset w) w.depth d found in
    onward-alike (entry_head w) (λ d s. proceed (contents limit any_tag d s) (λ found. give (row_with d found)))
    (λ d s. proceed (all_contents limit d s) (λ found. give (row_with d found)))
    (λ d s. ap (λ (x : Result (List RawAttribute × Walk) Error). proceed x (λ found. give (row_with d found)))
    (contents-all limit d s))

-- what is kept of attributes
abbrev attributes_if : Bool → List RawAttribute → List RawAttribute
attributes_if b found = cond b found []

abbrev tag_of : Option Declaration → ℕ
tag_of None = 0
tag_of (Some d) = d.tag

contents_in-choice : (limit : ℕ) (chosen : ℕ → Bool) (e : Encoding) (d : Option Declaration) (v w : View)
    (found : List RawAttribute) → contents_in limit any_tag e d v ≡ Ok (found, w)
    → contents_in limit chosen e d v ≡ Ok (attributes_if (chosen (tag_of d)) found, w)
contents_in-choice limit chosen e None v w found h =
    let none = value_is [] found v w h in
    let rest = state_is [] found v w h in
    ap (read []) rest ∙ ap (λ (xs : List RawAttribute). read xs w)
    (elim (chosen 0) as (λ b. [] ≡ attributes_if b found) [ true ↦ none | false ↦ refl ])
contents_in-choice limit chosen e (Some d) v w found h =
    elim (chosen d.tag) as (λ b. cond b (forms.attributes limit e d.attributes v)
    (proceed (form_skips.skip_values e d.attributes v) (λ _. give [])) ≡ Ok (attributes_if b found, w)) [
      | true ↦ h
      | false ↦ ap (λ (x : Result (Unit {0} × View) Error). proceed x (λ _. give []))
          (skip_values-attributes limit e d.attributes v w found h)
    ]

row_of-choice : (offset : ℕ) (depth : _) (d : Option Declaration) (chosen : ℕ → Bool) (found : List RawAttribute)
    → row_of offset depth d (attributes_if (chosen (tag_of d)) found)
    ≡ row_under_choice chosen (row_of offset depth d found)
row_of-choice offset depth None chosen found = refl
row_of-choice offset depth (Some d) chosen found = refl

pub row-choice : (limit : ℕ) (chosen : ℕ → Bool) (w t : Walk) (r : Row) → row limit w ≡ Ok (r, t)
    → row_choosing limit chosen w ≡ Ok (row_under_choice chosen r, t)
row-choice limit chosen w t r e =
    let h = row-parts limit any_tag w t r (row-all limit w ∙ e) in
    row-from limit chosen w t (row_under_choice chosen r) (record {
      declaration = h.declaration;
      after_its_code = h.after_its_code;
      rest = h.rest;
      found = attributes_if (chosen (tag_of h.declaration)) h.found;
      has_head = h.has_head;
      has_contents =
          contents_in-choice limit chosen w.encoding h.declaration h.after_its_code h.rest h.found
          h.has_contents;
      is_row =
          row_of-choice (next_offset w) w.depth h.declaration chosen h.found ∙ ap (row_under_choice chosen) h.is_row;
      leads = h.leads;
    })

-- ---- the rows of a walk

abbrev pub size : Walk → ℕ
size w = bytes_left w.rest

pub row-below : (limit : ℕ) (chosen : ℕ → Bool) (w : Walk) (n : ℕ) → size w ≤ n
    → Below size n (row_choosing limit chosen w)
row-below limit chosen w n h =
    record { left = λ r t e. let less = row-takes limit chosen w t r (row-parts limit chosen w t r e) in omega arith }

pub rows-shrink : (limit : ℕ) (chosen : ℕ → Bool) → Shrinks size (row_or_end limit chosen)
unfolding row_or_end
rows-shrink limit chosen = record {
  smaller = λ w n h.
      SomeBelow-cond (eqb (size w) 0) SomeBelow-None
      (SomeBelow-proceed (row-below limit chosen w n h) (λ x s lt. SomeBelow-Ok lt));
}

pub rows-few : (limit : ℕ) (chosen : ℕ → Bool) (w : Walk) → length (rows limit chosen w).items ≤ bytes_left w.rest
unfolding rows
rows-few limit chosen w = listing_few (rows-shrink limit chosen) w

-- a row before the unit's end was read
pub row-item : (limit : ℕ) (chosen : ℕ → Bool) (w t : Walk) (r : Row) → row_or_end limit chosen w ≡ Ok (Some r, t)
    → row_choosing limit chosen w ≡ Ok (r, t)
unfolding row_or_end
row-item limit chosen w t r e = by_test (eqb (size w) 0) e
  where
    some_is : (x y : Row) → Some x ≡ Some y → x ≡ y
    some_is x y h = cc

    by_test : (b : Bool) → cond b (Ok (None, w)) (proceed (row_choosing limit chosen w) (λ x. give (Some x)))
        ≡ read (Some r) t → row_choosing limit chosen w ≡ Ok (r, t)
    by_test true h = let no : None ≡ Some r = value_is None (Some r) w t h in absurd cc
    by_test false h =
        let b = begins (row_choosing limit chosen w) (λ x. give (Some x)) (Some r) t h in
        let same : b.0 ≡ r = some_is b.0 r (value_is _ _ _ _ b.3) in
        b.2 ∙ ap (λ (x : Row). read x b.1) same ∙ ap (read r) (state_is _ _ _ _ b.3)

-- ---- offsets that grow

-- numbers that grow, the first of them this one or above it
abbrev pub GrowFrom : ℕ → List ℕ → Type 0
GrowFrom low [] = Unit {0}
GrowFrom low (x ∷ xs) = (low ≤ x) × GrowFrom (x + 1) xs

GrowFrom-le : (low high : ℕ) (xs : List ℕ) → low ≤ high → GrowFrom high xs → GrowFrom low xs
GrowFrom-le low high [] h g = tt
GrowFrom-le low high (x ∷ xs) h g = let first = g.0 in (omega arith, g.1)

-- such numbers rise
grow_strictly : (low : ℕ) (xs : List ℕ) → GrowFrom low xs → (k : ℕ) → k + 1 < length xs
    → get_or xs k 0 < get_or xs (k + 1) 0
grow_strictly low [] g k h = absurd (omega arith)
grow_strictly low (x ∷ []) g k h = absurd (omega arith)
grow_strictly low (x ∷ y ∷ xs) g zero h = let next = g.1.0 in omega arith
grow_strictly low (x ∷ y ∷ xs) g (suc k) h =
    let less : k + 1 < length (y ∷ xs) = omega arith in
    let is : suc k + 1 ≡ suc (k + 1) = omega arith in
    rw is (grow_strictly (x + 1) (y ∷ xs) g.1 k less)

-- the offsets of rows
abbrev pub offsets : List Row → List ℕ
offsets rs = map (λ r. r.offset) rs

-- a row has its walk's offset, and the next one comes after it
pub row-place : (limit : ℕ) (chosen : ℕ → Bool) (w t : Walk) (r : Row) → HasRow limit chosen w r t
    → (r.offset ≡ next_offset w) × (t.end_offset ≡ w.end_offset)
row-place limit chosen w t r h =
    (sym (ap (λ (x : Row). x.offset) h.is_row) ∙ place h.declaration, sym (ap (λ (x : Walk). x.end_offset) h.leads))
  where
    place : (d : Option Declaration) → (row_of (next_offset w) w.depth d h.found).offset ≡ next_offset w
    place None = refl
    place (Some d) = refl

-- what a walk lists from its place on grows from there
rows-grow : (limit : ℕ) (chosen : ℕ → Bool) (n : ℕ) (w : Walk) → bytes_left w.rest ≤ w.end_offset
    → GrowFrom (next_offset w) (offsets (items_within n (row_or_end limit chosen) w).items)
unfolding items_within
rows-grow limit chosen zero w h = tt
rows-grow limit chosen (suc n) w h = by_step (row_or_end limit chosen w) refl (rows-grow limit chosen n)
  where
    item : (r : Row) (t : Walk) → row_or_end limit chosen w ≡ Ok (Some r, t)
        → (bytes_left t.rest ≤ t.end_offset
        → GrowFrom (next_offset t) (offsets (items_within n (row_or_end limit chosen) t).items))
        → GrowFrom (next_offset w) (offsets (r ∷ (items_within n (row_or_end limit chosen) t).items))
    item r t e again =
        let parts = row-parts limit chosen w t r (row-item limit chosen w t r e) in
        let less = row-takes limit chosen w t r parts in
        let place = row-place limit chosen w t r parts in
        let at = place.0 in
        let end = place.1 in (
          omega arith,
          GrowFrom-le (r.offset + 1) (next_offset t)
              (offsets (items_within n (row_or_end limit chosen) t).items) (omega arith) (again (omega arith)),
        )

    optional : (o : Option Row) (t : Walk) → row_or_end limit chosen w ≡ Ok (o, t)
        → (bytes_left t.rest ≤ t.end_offset
        → GrowFrom (next_offset t) (offsets (items_within n (row_or_end limit chosen) t).items))
        → GrowFrom (next_offset w) (offsets (item_or_end o t (items_within n (row_or_end limit chosen))).items)
    optional None t e again = tt
    optional (Some r) t e again = item r t e again

    by_step : (x : Result (Option Row × Walk) Error) → row_or_end limit chosen w ≡ x
        → ((t : Walk) → bytes_left t.rest ≤ t.end_offset
        → GrowFrom (next_offset t) (offsets (items_within n (row_or_end limit chosen) t).items))
        → GrowFrom (next_offset w) (offsets (next_item x (items_within n (row_or_end limit chosen))).items)
    by_step (Err d) e again = tt
    by_step (Ok p) e again = optional p.0 p.1 e (again p.1)

pub rows-increase : (limit : ℕ) (chosen : ℕ → Bool) (w : Walk) → IsWithin w
    → IsStrictlyIncreasing (offsets (rows limit chosen w).items)
unfolding rows listing_in
rows-increase limit chosen w h =
    grow_strictly (next_offset w) (offsets (items_within (suc (size w)) (row_or_end limit chosen) w).items)
    (rows-grow limit chosen (suc (size w)) w h.is_before)
