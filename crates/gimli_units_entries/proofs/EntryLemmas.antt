-- What reading the entry at an offset makes of the row there.
use Rattle.std.proofs.Common.{◌≡◌, ℕ, Bool, true, false, cond, not, eqb, List, Some, Result, Ok, Err, refl, sym, ◌∙◌, ap}
use Rattle.gimli_core_base.specs.declared.error.Error.{Error}
use Rattle.gimli_core_base.specs.declared.error.Error.TheVariants.{NoEntryAtGivenOffset}
use Rattle.gimli_core_base.specs.Parsers.{proceed, give}
use Rattle.gimli_core_base.proofs.StepParts.{value_is}
use Rattle.gimli_units_forms.specs.Declarations.{Declaration}
use Rattle.gimli_units_headers.specs.UnitHeaders.{DebugUnit}
use Rattle.gimli_units_entries.specs.EntryWalks.{Walk}
use Rattle.gimli_units_entries.specs.EntryRows.{Row, row, present_row, not_null_in, row_of_walk, entry_at}
use Rattle.gimli_units_entries.specs.UnitEntries.{walk_from}

-- a row, and whether it is there
abbrev present_result : Result (Row × Walk) Error → Result ((Bool × Row) × Walk) Error
present_result r = proceed r (λ x. give (not (eqb x.tag 0), x))

abbrev as_row : Row → Result Row Error
as_row x = Ok x

abbrev no_entry : ℕ → Result Row Error
no_entry offset = Err (NoEntryAtGivenOffset offset)

-- a test and a row
abbrev with_test : Bool → Row → Bool × Row
with_test b x = (b, x)

present_is : (offset : ℕ) (b : Bool) (x y : Row) → with_test (not b) x ≡ with_test true y
    → cond b (no_entry offset) (as_row x) ≡ as_row y
present_is offset true x y e = let no : false ≡ true = ap (λ (p : Bool × Row). p.0) e in absurd cc
present_is offset false x y e = ap (λ (p : Bool × Row). as_row p.1) e

null_is : (offset : ℕ) (b : Bool) (x y : Row) → with_test (not b) x ≡ with_test false y
    → cond b (no_entry offset) (as_row x) ≡ no_entry offset
null_is offset true x y e = refl
null_is offset false x y e = let no : true ≡ false = ap (λ (p : Bool × Row). p.0) e in absurd cc

row_present : (offset : ℕ) (r : Result (Row × Walk) Error) (x : Row) (t : Walk) → present_result r ≡ Ok ((true, x), t)
    → not_null_in offset r ≡ as_row x
row_present offset (Err d) x t e = absurd cc
row_present offset (Ok r) x t e = present_is offset (eqb r.0.tag 0) r.0 x (value_is _ _ _ _ e)

row_null : (offset : ℕ) (r : Result (Row × Walk) Error) (x : Row) (t : Walk) → present_result r ≡ Ok ((false, x), t)
    → not_null_in offset r ≡ no_entry offset
row_null offset (Err d) x t e = absurd cc
row_null offset (Ok r) x t e = null_is offset (eqb r.0.tag 0) r.0 x (value_is _ _ _ _ e)

row_fault : (offset : ℕ) (r : Result (Row × Walk) Error) (d : Error) → present_result r ≡ Err d
    → not_null_in offset r ≡ Err d
row_fault offset (Err f) d e = cc
row_fault offset (Ok r) d e = absurd cc

-- the walk begins, and a row is there
pub entry_at-present : (limit : ℕ) (u : DebugUnit) (table : List Declaration) (offset : ℕ) (w t : Walk) (b : Bool)
    (x : Row) → walk_from u table (Some offset) ≡ Ok w → present_row limit w ≡ Ok ((b, x), t) → b ≡ true
    → entry_at limit u table offset ≡ Ok x
unfolding entry_at
entry_at-present limit u table offset w t b x h k is =
    ap (row_of_walk limit offset) h ∙ row_present offset (row limit w) x t (rw is at k)

-- it is a null entry
pub entry_at-null : (limit : ℕ) (u : DebugUnit) (table : List Declaration) (offset n : ℕ) (w t : Walk) (b : Bool)
    (x : Row) → walk_from u table (Some offset) ≡ Ok w → present_row limit w ≡ Ok ((b, x), t) → b ≡ false → n ≡ offset
    → entry_at limit u table offset ≡ Err (NoEntryAtGivenOffset n)
unfolding entry_at
entry_at-null limit u table offset n w t b x h k is same =
    ap (row_of_walk limit offset) h ∙ row_null offset (row limit w) x t (rw is at k) ∙ ap no_entry (sym same)

-- it can't be read
pub entry_at-fault : (limit : ℕ) (u : DebugUnit) (table : List Declaration) (offset : ℕ) (w : Walk) (d : Error)
    → walk_from u table (Some offset) ≡ Ok w → present_row limit w ≡ Err d → entry_at limit u table offset ≡ Err d
unfolding entry_at
entry_at-fault limit u table offset w d h k = ap (row_of_walk limit offset) h ∙ row_fault offset (row limit w) d k
