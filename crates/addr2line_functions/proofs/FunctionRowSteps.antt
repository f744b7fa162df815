-- A function's own entry, before those below it.
use Rattle.std.proofs.Common.{◌≡◌, ℕ, Bool, true, false, cond, not, ◌==◌, List, Option, Some, None, Result, Ok, Err, refl, sym, ap, ◌∙◌}
use Rattle.gimli_units_entries.specs.Error.{Error}
use Rattle.gimli_units_entries.specs.Error.TheVariants.{NoEntryAtGivenOffset}
use Rattle.gimli_units_entries.specs.View.{View}
use Rattle.gimli_units_entries.specs.Parsers.{proceed, give}
use Rattle.gimli_units_entries.proofs.StepParts.{begins, value_is, state_is}
use Rattle.gimli_units_entries.specs.AttributeValues.{RawAttribute}
use Rattle.gimli_units_entries.specs.EntryWalks.{Walk}
use Rattle.gimli_units_entries.specs.EntryRows.{Row, row, present_row}
use Rattle.gimli_units_entries.specs.UnitEntries.{walk_from}
use Rattle.gimli_units_entries.specs.Results.{and_then}
use Rattle.addr2line_names.specs.UnitFacts.{UnitInFile}
use Rattle.addr2line_ranges.specs.InlinedCalls.{Naming, name_by, Call, FunctionCalls, calls_among, entries_of, function_calls, calls_of_row, calls_of_function}

module _ (limit : ℕ) (u : UnitInFile) (same_limit : u.file.offset_limit ≡ limit) (naming : Naming) where
  -- a function of a name
  abbrev function_of_name : ℕ → Walk → Option View → Result FunctionCalls Error
  function_of_name n w name =
      and_then (calls_among u naming (entries_of n w)) (λ calls. Ok (record { name = name; calls = calls }))

  with_name : (r : Row) (w : Walk) (attributes : List RawAttribute) (x : Result (Option View) Error)
      → attributes ≡ r.attributes → name_by naming None attributes ≡ x
      → function_calls u naming r w ≡ and_then x (function_of_name limit w)
  with_name r w attributes x same h =
      ap (λ y. and_then y (function_of_name u.file.offset_limit w)) (ap (name_by naming None) (sym same) ∙ h)
      ∙ ap (λ n. and_then x (function_of_name n w)) same_limit

  pub name_refused : (r : Row) (w : Walk) (attributes : List RawAttribute) (e : Error) → attributes ≡ r.attributes
      → name_by naming None attributes ≡ Err e → function_calls u naming r w ≡ Err e
  name_refused r w attributes e same h = with_name r w attributes (Err e) same h

  pub calls_refused : (r : Row) (w : Walk) (attributes : List RawAttribute) (name : Option View) (e : Error)
      → attributes ≡ r.attributes → name_by naming None attributes ≡ Ok name
      → calls_among u naming (entries_of limit w) ≡ Err e → function_calls u naming r w ≡ Err e
  calls_refused r w attributes name e same h k =
      with_name r w attributes (Ok name) same h
      ∙ ap (λ y. and_then y (λ calls. Ok (record { name = name; calls = calls }))) k

  pub calls_read : (r : Row) (w : Walk) (attributes : List RawAttribute) (name : Option View) (calls : List Call)
      → attributes ≡ r.attributes → name_by naming None attributes ≡ Ok name
      → calls_among u naming (entries_of limit w) ≡ Ok calls
      → function_calls u naming r w ≡ Ok (record { name = name; calls = calls })
  calls_read r w attributes name calls same h k =
      with_name r w attributes (Ok name) same h
      ∙ ap (λ y. and_then y (λ cs. Ok (record { name = name; calls = cs }))) k

  -- the entry at an offset from which a walk begins
  abbrev from_row : ℕ → Result (Row × Walk) Error → Result FunctionCalls Error
  from_row offset x = calls_of_row u naming offset x

  from_walk : (offset : ℕ) (w : Walk) (x : Result (Row × Walk) Error)
      → walk_from u.facts.header u.facts.table (Some offset) ≡ Ok w → row limit w ≡ x
      → calls_of_function u naming offset ≡ from_row offset x
  from_walk offset w x h k =
      ap (λ y. and_then y (λ v. from_row offset (row u.file.offset_limit v))) h
      ∙ ap (λ n. from_row offset (row n w)) same_limit ∙ ap (from_row offset) k

  -- a row that was read, and whether it isn't null
  abbrev not_null : Result (Row × Walk) Error → Result ((Bool × Row) × Walk) Error
  not_null x = proceed x (λ r. give (not (r.tag == 0), r))

  not_null_error : (x : Result (Row × Walk) Error) (e : Error) → not_null x ≡ Err e → x ≡ Err e
  not_null_error (Ok p) e h = absurd cc
  not_null_error (Err d) e h = let same : d ≡ e = cc in ap (λ x. refusal x) same
    where
      refusal : Error → Result (Row × Walk) Error
      refusal x = Err x

  pub entry_refused : (offset : ℕ) (w : Walk) (e : Error) → walk_from u.facts.header u.facts.table (Some offset) ≡ Ok w
      → present_row limit w ≡ Err e → calls_of_function u naming offset ≡ Err e
  entry_refused offset w e h k = from_walk offset w (Err e) h (not_null_error (row limit w) e k)

  not_null_ok : (w t : Walk) (b : Bool) (r : Row) → present_row limit w ≡ Ok ((b, r), t)
      → (row limit w ≡ Ok (r, t)) × (b ≡ not (r.tag == 0))
  not_null_ok w t b r h =
      let q = begins (row limit w) (λ x. give (not (x.tag == 0), x)) (b, r) t h in
      let pair : (not (q.0.tag == 0), q.0) ≡ (b, r) = value_is (not (q.0.tag == 0), q.0) (b, r) q.1 t q.3 in
      let same : q.0 ≡ r = ap (λ p. p.1) pair in
      let to : q.1 ≡ t = state_is (not (q.0.tag == 0), q.0) (b, r) q.1 t q.3 in (
        q.2 ∙ ap (λ x. answer x q.1) same ∙ ap (answer r) to,
        sym (ap (λ p. p.0) pair) ∙ ap (λ (x : Row). not (x.tag == 0)) same,
      )
    where
      answer : Row → Walk → Result (Row × Walk) Error
      answer x v = Ok (x, v)

  null_by : (offset : ℕ) (r : Row) (t : Walk) (b : Bool) → (r.tag == 0) ≡ b → false ≡ not b
      → from_row offset (Ok (r, t)) ≡ Err (NoEntryAtGivenOffset offset)
  null_by offset r t true is h =
      ap (λ c. and_then (cond c (refusal offset) (Ok r)) (λ x. function_calls u naming x t)) is
    where
      refusal : ℕ → Result Row Error
      refusal n = Err (NoEntryAtGivenOffset n)
  null_by offset r t false is h = absurd cc

  pub entry_null : (offset number : ℕ) (w t : Walk) (b : Bool) (r : Row)
      → walk_from u.facts.header u.facts.table (Some offset) ≡ Ok w → present_row limit w ≡ Ok ((b, r), t) → b ≡ false
      → number ≡ offset
      → calls_of_function u naming offset ≡ Err (NoEntryAtGivenOffset number)
  entry_null offset number w t b r h k is same =
      let p = not_null_ok w t b r k in
      from_walk offset w (Ok (r, t)) h p.0 ∙ null_by offset r t (r.tag == 0) refl (sym is ∙ p.1)
      ∙ ap (λ n. refusal n) (sym same)
    where
      refusal : ℕ → Result FunctionCalls Error
      refusal n = Err (NoEntryAtGivenOffset n)

  entry_by : (offset : ℕ) (r : Row) (t : Walk) (b : Bool) → (r.tag == 0) ≡ b → true ≡ not b
      → from_row offset (Ok (r, t)) ≡ function_calls u naming r t
  entry_by offset r t true is h = absurd cc
  entry_by offset r t false is h =
      ap (λ c. and_then (cond c (Err (NoEntryAtGivenOffset offset)) (here r))
      (λ x. function_calls u naming x t)) is
    where
      here : Row → Result Row Error
      here x = Ok x

  pub entry_is_there : (offset : ℕ) (w t : Walk) (b : Bool) (r : Row)
      → walk_from u.facts.header u.facts.table (Some offset) ≡ Ok w → present_row limit w ≡ Ok ((b, r), t) → b ≡ true
      → calls_of_function u naming offset ≡ function_calls u naming r t
  entry_is_there offset w t b r h k is =
      let p = not_null_ok w t b r k in
      from_walk offset w (Ok (r, t)) h p.0 ∙ entry_by offset r t (r.tag == 0) refl (sym is ∙ p.1)
