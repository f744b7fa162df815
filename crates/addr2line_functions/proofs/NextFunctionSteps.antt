-- The function of the next entry, by what is read of the entry.
use Rattle.std.proofs.Common.{◌≡◌, ℕ, Bool, true, false, cond, List, [], Option, Some, None, Result, Ok, Err, refl, sym, ap, ◌∙◌}
use Rattle.gimli_units_entries.specs.Error.{Error}
use Rattle.gimli_units_entries.specs.Range.{Range}
use Rattle.gimli_units_entries.specs.Parsers.{Step, proceed, give, lift, map_value}
use Rattle.gimli_units_entries.proofs.StepParts.{begins, value_is, state_is}
use Rattle.addr2line_ranges.specs.Declarations.{Attribute, Declaration}
use Rattle.gimli_units_entries.specs.AttributeValues.{RawAttribute}
use Rattle.gimli_units_entries.specs.EntryWalks.{Walk, next_offset, entry_head, values, skip_values}
use Rattle.gimli_units_entries.specs.EntryRows.{Row, row_of, skip_attributes_of, contents, row_choosing}
use Rattle.gimli_units_entries.specs.Results.{and_then}
use Rattle.addr2line_names.specs.UnitFacts.{UnitInFile}
use Rattle.addr2line_ranges.specs.EntryRanges.{ranges_of_entry}
use Rattle.addr2line_ranges.specs.Functions.{Function, is_subprogram}
use Rattle.addr2line_functions.specs.NextFunctions.{if_has_range, function_of_row, next_function}
use Rattle.addr2line_functions.proofs.RangeAttributes.{of_ranges, ranges_of_entry-by_names}

abbrev Answer : Type 0
Answer = Result (Option Function × Walk) Error

abbrev no_attributes : List RawAttribute
no_attributes = []

-- the attributes that ranges come from, among those that declarations describe
abbrev pub range_values : ℕ → List Attribute → Step Walk (List RawAttribute)
range_values limit ss = map_value of_ranges (values limit ss)

abbrev refusal : Error → Result (List RawAttribute × Walk) Error
refusal e = Err e

fault_before : (r : Result (List RawAttribute × Walk) Error) (e : Error)
    → proceed r (λ xs. give (of_ranges xs)) ≡ Err e → r ≡ Err e
fault_before (Ok r) e h = absurd cc
fault_before (Err d) e h = let is : d ≡ e = cc in ap refusal is

module _ (limit : ℕ) (u : UnitInFile) (w : Walk) where
  -- the function of an entry with these ranges, or their refusal
  abbrev function_by : Result (List Range) Error → Result (Option Function) Error
  function_by r =
      and_then (and_then r (λ rs. Ok (record { offset = next_offset w; ranges = rs }))) (λ f. Ok (if_has_range f))

  abbrev row_with : Option Declaration → List RawAttribute → Row
  row_with d found = row_of (next_offset w) w.depth d found

  -- ---- the code

  abbrev after_code : Result (Option Declaration × Walk) Error → Answer
  after_code r =
      proceed (proceed r (λ d s. proceed (contents limit is_subprogram d s) (λ found. give (row_with d found))))
      (λ x. lift (function_of_row u x))

  by_code : next_function limit u w ≡ after_code (entry_head w)
  unfolding row_choosing
  by_code = refl

  pub code_refused : (e : Error) → entry_head w ≡ Err e → next_function limit u w ≡ Err e
  code_refused e h = by_code ∙ ap after_code h

  read_code : (t : Walk) (o p : Option Declaration) → entry_head w ≡ Ok (o, t) → o ≡ p
      → next_function limit u w ≡ after_code (Ok (p, t))
  read_code t o p h is = by_code ∙ ap after_code h ∙ ap (λ (d : Option Declaration). after_code (Ok (d, t))) is

  pub null_entry : (t : Walk) (o : Option Declaration) → entry_head w ≡ Ok (o, t) → o ≡ None
      → next_function limit u w ≡ Ok (None, t)
  null_entry t o h none = read_code t o None h none

  -- ---- the attributes

  abbrev after_attributes : Bool → Result (List RawAttribute × Walk) Error → Answer
  after_attributes is_function r =
      proceed r (λ found. lift (cond is_function (function_by (ranges_of_entry u found)) (Ok None)))

  by_declaration : (d : Declaration) (r : Result (List RawAttribute × Walk) Error)
      → proceed (proceed r (λ found. give (row_with (Some d) found))) (λ x. lift (function_of_row u x))
      ≡ after_attributes (is_subprogram d.tag) r
  by_declaration d (Ok r) = refl
  by_declaration d (Err e) = refl

  by_tag : (t : Walk) (o : Option Declaration) (d : Declaration) (b : Bool) → entry_head w ≡ Ok (o, t) → o ≡ Some d
      → is_subprogram d.tag ≡ b
      → next_function limit u w
      ≡ after_attributes b (cond b (values limit d.attributes t) (skip_attributes_of d t))
  by_tag t o d b h some is =
      read_code t o (Some d) h some ∙ by_declaration d (contents limit is_subprogram (Some d) t)
      ∙ ap (λ c. after_attributes c (cond c (values limit d.attributes t) (skip_attributes_of d t))) is

  -- an entry that is no function's
  module _ (t : Walk) (o : Option Declaration) (d : Declaration) (h : entry_head w ≡ Ok (o, t)) (some : o ≡ Some d)
      (other : is_subprogram d.tag ≡ false) where
    pub other_skipped : (v : Walk) → skip_values d.attributes t ≡ Ok (tt, v) → next_function limit u w ≡ Ok (None, v)
    other_skipped v k =
        by_tag t o d false h some other
        ∙ ap (λ r. after_attributes false (proceed r (λ _. give no_attributes))) k

    pub other_refused : (e : Error) → skip_values d.attributes t ≡ Err e → next_function limit u w ≡ Err e
    other_refused e k =
        by_tag t o d false h some other
        ∙ ap (λ r. after_attributes false (proceed r (λ _. give no_attributes))) k

  -- a function's
  module _ (t : Walk) (o : Option Declaration) (d : Declaration) (h : entry_head w ≡ Ok (o, t)) (some : o ≡ Some d)
      (is : is_subprogram d.tag ≡ true) where
    pub attributes_refused : (e : Error) → range_values limit d.attributes t ≡ Err e
        → next_function limit u w ≡ Err e
    attributes_refused e k =
        by_tag t o d true h some is ∙ ap (after_attributes true) (fault_before (values limit d.attributes t) e k)

    by_ranges : (v : Walk) (found : List RawAttribute) → range_values limit d.attributes t ≡ Ok (found, v)
        → next_function limit u w ≡ lift (function_by (ranges_of_entry u found)) v
    by_ranges v found k =
        let b = begins (values limit d.attributes t) (λ xs. give (of_ranges xs)) found v k in
        let kept : of_ranges b.0 ≡ found = value_is _ _ _ _ b.3 in
        let left : b.1 ≡ v = state_is _ _ _ _ b.3 in
        by_tag t o d true h some is ∙ ap (after_attributes true) b.2
        ∙ ap (λ (r : Result (List Range) Error). lift (function_by r) b.1)
        (sym (ranges_of_entry-by_names u b.0) ∙ ap (ranges_of_entry u) kept)
        ∙ ap (λ (x : Walk). lift (function_by (ranges_of_entry u found)) x) left

    pub ranges_refused : (v : Walk) (found : List RawAttribute) (e : Error)
        → range_values limit d.attributes t ≡ Ok (found, v) → ranges_of_entry u found ≡ Err e
        → next_function limit u w ≡ Err e
    ranges_refused v found e k m = by_ranges v found k ∙ ap (λ r. lift (function_by r) v) m

    pub function_read : (v : Walk) (found : List RawAttribute) (rs : List Range) (offset : ℕ) (f : Option Function)
        → range_values limit d.attributes t ≡ Ok (found, v) → ranges_of_entry u found ≡ Ok rs
        → offset ≡ next_offset w → f ≡ if_has_range (record { offset = offset; ranges = rs })
        → next_function limit u w ≡ Ok (f, v)
    function_read v found rs offset f k m at made =
        by_ranges v found k ∙ ap (λ r. lift (function_by r) v) m
        ∙ ap (λ n. answer (if_has_range (record { offset = n; ranges = rs }))) (sym at) ∙ ap answer (sym made)
      where
        answer : Option Function → Answer
        answer o = Ok (o, v)
