-- The functions of a unit by one entry more, and at the end.
use Rattle.std.proofs.Common.{◌≡◌, ℕ, zero, suc, ◌<◌, ℤ, Bool, true, false, cond, not, ◌||◌, ◌==◌, List, [], ◌∷◌, ◌++◌, filter, Option, Some, None, option_to_list, Result, Ok, Err, refl, sym, ap, ◌∙◌, append_assoc, append-nil, arith}
use Rattle.std.proofs.lemmas.Bool.{eqb-true}
use Rattle.std.proofs.lemmas.Bool.Decides.{nat_tests}
use Rattle.gimli_units_entries.specs.Error.{Error}
use Rattle.gimli_units_entries.specs.View.{bytes_left}
use Rattle.gimli_units_entries.specs.Parsers.{proceed, lift}
use Rattle.gimli_units_entries.specs.Repetition.{Listing, prepend, fault_of}
use Rattle.gimli_units_entries.proofs.StepParts.{begins, value_is, state_is}
use Rattle.gimli_units_entries.specs.EntryWalks.{Walk}
use Rattle.gimli_units_entries.specs.TheConstants.{DW_TAG_subprogram}
use Rattle.gimli_units_entries.specs.OtherEntries.{is_tag_of, after_other, skip_others}
use Rattle.gimli_units_entries.proofs.OtherEntryLemmas.{skip_others-keeps}
use Rattle.gimli_units_entries.specs.EntryRows.{Row, row_choosing, rows}
use Rattle.gimli_units_entries.specs.UnitEntries.{walk_before}
use Rattle.gimli_units_entries.proofs.RowParts.{row-parts, row-takes}
use Rattle.gimli_units_entries.proofs.RowSteps.{rows-next, rows-fault, rows-end}
use Rattle.gimli_units_entries.specs.Results.{and_then, unless, each}
use Rattle.addr2line_names.specs.UnitFacts.{UnitInFile}
use Rattle.addr2line_ranges.specs.Functions.{Function, is_subprogram, has_range, function_of, functions_of_rows, functions_of_unit}
use Rattle.addr2line_functions.proofs.OtherEntrySteps.{other_row}
use Rattle.addr2line_functions.specs.NextFunctions.{if_has_range, function_of_row, next_function, functions_from}

-- some functions, and then further ones
abbrev pub functions_then : List Function → Result (List Function) Error → Result (List Function) Error
functions_then found r = and_then r (λ fs. Ok (found ++ fs))

-- a result that is a value
abbrev ok_of : {A : Type 0} → A → Result A Error
ok_of x = Ok x

functions_then-none : (r : Result (List Function) Error) → functions_then [] r ≡ r
functions_then-none (Ok fs) = refl
functions_then-none (Err e) = refl

functions_then-both : (xs ys : List Function) (r : Result (List Function) Error)
    → functions_then xs (functions_then ys r) ≡ functions_then (xs ++ ys) r
functions_then-both xs ys (Ok fs) = ap ok_of (sym (append_assoc xs ys fs))
functions_then-both xs ys (Err e) = refl

-- a function that may have no range, before others
some-range : (f : Function) (fs : List Function) (b : Bool)
    → cond b (f ∷ fs) fs ≡ option_to_list (cond b (Some f) None) ++ fs
some-range f fs true = refl
some-range f fs false = refl

unless-ranged : (f : Function) (fs : List Function) (fault : Option Error)
    → unless fault (ok_of (filter has_range (f ∷ fs)))
    ≡ functions_then (option_to_list (if_has_range f)) (unless fault (ok_of (filter has_range fs)))
unless-ranged f fs None = ap ok_of (some-range f (filter has_range fs) (has_range f))
unless-ranged f fs (Some e) = refl

-- the functions that have a range, unless a fault ends them
abbrev unless_fault_with_range : Option Error → Result (List Function) Error → Result (List Function) Error
unless_fault_with_range fault r = and_then r (λ fs. unless fault (Ok (filter has_range fs)))

-- a function, and then those that are read
function-first : (fault : Option Error) (f : Function) (rest : Result (List Function) Error)
    → unless_fault_with_range fault (and_then rest (λ fs. Ok (f ∷ fs)))
    ≡ functions_then (option_to_list (if_has_range f)) (unless_fault_with_range fault rest)
function-first fault f (Ok fs) = unless-ranged f fs fault
function-first fault f (Err e) = refl

-- the function of a row, and then those of further rows
abbrev after_row : Result (Option Function) Error → Result (List Function) Error → Result (List Function) Error
after_row o rest = and_then o (λ f. functions_then (option_to_list f) rest)

read-first : (fault : Option Error) (r : Result Function Error) (rest : Result (List Function) Error)
    → unless_fault_with_range fault (and_then r (λ f. and_then rest (λ fs. Ok (f ∷ fs))))
    ≡ after_row (and_then r (λ f. Ok (if_has_range f))) (unless_fault_with_range fault rest)
read-first fault (Ok f) rest = function-first fault f rest
read-first fault (Err e) rest = refl

-- the tag is that of a function, by a list of tags
abbrev pub is_function : ℕ → Bool
is_function = is_tag_of (DW_TAG_subprogram ∷ [])

only_first : (b : Bool) → (b || false) ≡ false → b ≡ false
only_first true h = absurd cc
only_first false h = refl

not_function : (n : ℕ) → is_function n ≡ false → is_subprogram n ≡ false
not_function n h =
    let other : (DW_TAG_subprogram.0 == n) ≡ false = only_first (DW_TAG_subprogram.0 == n) h in
    grind (arith, nat_tests)

module _ (limit : ℕ) (u : UnitInFile) where
  by_tag : (fault : Option Error) (r : Row) (rs : List Row) (b : Bool)
      → unless_fault_with_range fault (each (function_of u) (cond b (r ∷ rs) rs))
      ≡ after_row (cond b (and_then (function_of u r) (λ f. Ok (if_has_range f))) (Ok None))
      (unless_fault_with_range fault (each (function_of u) rs))
  by_tag fault r rs true = read-first fault (function_of u r) (each (function_of u) rs)
  by_tag fault r rs false = sym (functions_then-none (unless_fault_with_range fault (each (function_of u) rs)))

  row-first : (r : Row) (l : Listing Walk Row)
      → functions_of_rows u (prepend (r ∷ []) l)
      ≡ after_row (function_of_row u r) (functions_of_rows u l)
  row-first r l = by_tag (fault_of l) r (filter (λ (x : Row). is_subprogram x.tag) l.items) (is_subprogram r.tag)

  -- the functions from a row on
  from-next : (w t : Walk) (r : Row) → row_choosing limit is_subprogram w ≡ Ok (r, t)
      → functions_from limit u w ≡ after_row (function_of_row u r) (functions_from limit u t)
  from-next w t r h =
      ap (functions_of_rows u) (rows-next limit is_subprogram w t r h)
      ∙ row-first r (rows limit is_subprogram t)

  -- the function of a row, where it is read
  ok_of_lift : (r : Result (Option Function) Error) (v t : Walk) (o : Option Function) → lift r v ≡ Ok (o, t)
      → (r ≡ Ok o) × (v ≡ t)
  ok_of_lift (Ok f) v t o h = (ap ok_of (value_is f o v t h), state_is f o v t h)
  ok_of_lift (Err e) v t o h = absurd cc

  error_of_lift : (r : Result (Option Function) Error) (v : Walk) (e : Error) → lift r v ≡ Err e → r ≡ Err e
  error_of_lift (Ok f) v e h = absurd cc
  error_of_lift (Err d) v e h = let same : d ≡ e = cc in ap (λ (x : Error). refusal x) same
    where
      refusal : Error → Result (Option Function) Error
      refusal x = Err x

  -- after an entry, the functions so far with those to come are the same
  pub functions-more : (xs : List Function) (w t : Walk) (o : Option Function) → next_function limit u w ≡ Ok (o, t)
      → functions_then (xs ++ option_to_list o) (functions_from limit u t)
      ≡ functions_then xs (functions_from limit u w)
  functions-more xs w t o h =
      let b = begins (row_choosing limit is_subprogram w) (λ r. lift (function_of_row u r)) o t h in
      let is = ok_of_lift (function_of_row u b.0) b.1 t o b.3 in
      sym (functions_then-both xs (option_to_list o) (functions_from limit u t))
      ∙ ap (functions_then xs)
      (sym (from-next w b.1 b.0 b.2 ∙ ap (λ r. after_row r (functions_from limit u b.1)) is.0
      ∙ ap (λ v. functions_then (option_to_list o) (functions_from limit u v)) is.1))

  -- the functions to come are the same after an entry that isn't one
  other-function : (w t : Walk) → after_other is_function w ≡ Some t
      → functions_from limit u t ≡ functions_from limit u w
  other-function w t h =
      let r = other_row limit is_subprogram is_function refl not_function w t h in
      sym (from-next w t r.row r.read
      ∙ ap (λ (b : Bool). after_row (cond b (and_then (function_of u r.row) (λ f. Ok (if_has_range f))) (Ok None))
      (functions_from limit u t)) (not_function r.row.tag r.is_other)
      ∙ functions_then-none (functions_from limit u t))

  -- the same after all entries that are skipped
  pub functions-found : (bound : ℤ) (w : Walk)
      → functions_from limit u (skip_others is_function bound w) ≡ functions_from limit u w
  functions-found bound w =
      skip_others-keeps (λ (x : Walk). functions_from limit u x ≡ functions_from limit u w) is_function bound
      (λ x t above next same. other-function x t next ∙ same) w refl

  -- each entry takes bytes
  pub function-takes : (w t : Walk) (o : Option Function) → next_function limit u w ≡ Ok (o, t)
      → bytes_left t.rest < bytes_left w.rest
  function-takes w t o h =
      let b = begins (row_choosing limit is_subprogram w) (λ r. lift (function_of_row u r)) o t h in
      let is = ok_of_lift (function_of_row u b.0) b.1 t o b.3 in
      let takes = row-takes limit is_subprogram w b.1 b.0 (row-parts limit is_subprogram w b.1 b.0 b.2) in
      rw is.1 at takes

  -- an entry that can't be read is the error of all
  pub functions-refused : (xs : List Function) (w : Walk) (e : Error) → 0 < bytes_left w.rest
      → next_function limit u w ≡ Err e → functions_then xs (functions_from limit u w) ≡ Err e
  functions-refused xs w e some h = by (row_choosing limit is_subprogram w) refl h
    where
      by : (r : Result (Row × Walk) Error) → row_choosing limit is_subprogram w ≡ r
          → proceed r (λ x. lift (function_of_row u x)) ≡ Err e
          → functions_then xs (functions_from limit u w) ≡ Err e
      by (Ok r) is h =
          ap (functions_then xs)
          (from-next w r.1 r.0 is
          ∙ ap (λ o. after_row o (functions_from limit u r.1))
          (error_of_lift (function_of_row u r.0) r.1 e h))
      by (Err d) is h =
          let same : d ≡ e = cc in
          ap (λ l. functions_then xs (functions_of_rows u l)) (rows-fault limit is_subprogram w d some is)
          ∙ ap (λ x. refusal x) same
        where
          refusal : Error → Result (List Function) Error
          refusal x = Err x

  -- at the end there are no more
  pub functions-end : (xs : List Function) (w : Walk) → bytes_left w.rest ≡ 0
      → functions_then xs (functions_from limit u w) ≡ Ok xs
  functions-end xs w h =
      ap (λ l. functions_then xs (functions_of_rows u l)) (rows-end limit is_subprogram w h)
      ∙ ap ok_of (append-nil xs)

  -- before the first entry
  pub functions-start : (xs : List Function) (w : Walk) → u.file.offset_limit ≡ limit → xs ≡ []
      → ok_of (walk_before u.facts.header u.facts.table u.facts.header.entries) ≡ Ok w
      → functions_then xs (functions_from limit u w) ≡ functions_of_unit u
  functions-start xs w same_limit none h =
      let same : walk_before u.facts.header u.facts.table u.facts.header.entries ≡ w = cc in
      ap (λ l. functions_then l (functions_from limit u w)) none ∙ functions_then-none (functions_from limit u w)
      ∙ ap (functions_from limit u) (sym same)
      ∙ ap (λ n. functions_from n u (walk_before u.facts.header u.facts.table u.facts.header.entries)) (sym same_limit)

-- whether bytes are left
pub some_left : (n : ℕ) (b : Bool) → b ≡ not (n == 0) → b ≡ true → 0 < n
some_left zero b h k = absurd cc
some_left (suc n) b h k = omega arith

is_when_not : (b : Bool) → not b ≡ false → b ≡ true
is_when_not true h = refl
is_when_not false h = absurd cc

pub none_left : (n : ℕ) (b : Bool) → b ≡ not (n == 0) → b ≡ false → n ≡ 0
none_left n b h k = eqb-true n 0 (is_when_not (n == 0) (sym h ∙ k))
