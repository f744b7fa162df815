-- How a choice of tags changes the rows of a walk.
use Rattle.std.proofs.Common.{◌≡◌, ℕ, zero, suc, Bool, true, false, cond, eqb, [], ◌∷◌, map, Option, Some, None, option_map, Result, Ok, Err, refl, sym, ◌∙◌, ap}
use Rattle.gimli_core_base.specs.declared.error.Error.{Error}
use Rattle.gimli_core_base.specs.View.{bytes_left}
use Rattle.gimli_core_base.specs.Parsers.{proceed, give}
use Rattle.gimli_core_base.specs.Repetition.{Listing, prepend, next_item, item_or_end, items_within, listing_in, fault_of}
use Rattle.gimli_core_base.proofs.StepParts.{read, value_is, state_is, begins}
use Rattle.gimli_units_entries.specs.EntryWalks.{Walk}
use Rattle.gimli_units_entries.specs.EntryRows.{Row, row_choosing, row_or_end, rows}
use Rattle.gimli_units_entries.specs.EntryLaws.{any_tag, row_under_choice}
use Rattle.gimli_units_entries.proofs.RowLaws.{row-all, row-choice}

-- a row of all tags is also there where some are chosen
item-choice : (limit : ℕ) (chosen : ℕ → Bool) (w t : Walk) (o : Option Row) → row_or_end limit any_tag w ≡ Ok (o, t)
    → row_or_end limit chosen w ≡ Ok (option_map (row_under_choice chosen) o, t)
unfolding row_or_end
item-choice limit chosen w t o e = by_test (eqb (bytes_left w.rest) 0) e
  where
    none : Option Row
    none = None

    by_test : (b : Bool) → cond b (read none w) (proceed (row_choosing limit any_tag w) (λ x. give (Some x))) ≡ read o t
        → cond b (read none w) (proceed (row_choosing limit chosen w) (λ x. give (Some x)))
        ≡ read (option_map (row_under_choice chosen) o) t
    by_test true h =
        ap (read none) (state_is none o w t h)
        ∙ ap (λ (x : Option Row). read (option_map (row_under_choice chosen) x) t) (value_is none o w t h)
    by_test false h =
        let b = begins (row_choosing limit any_tag w) (λ x. give (Some x)) o t h in
        let again = row-choice limit chosen w b.1 b.0 (sym (row-all limit w) ∙ b.2) in
        ap (λ (x : Result (Row × Walk) Error). proceed x (λ y. give (Some y))) again
        ∙ ap (read (Some (row_under_choice chosen b.0))) (state_is (Some b.0) o b.1 t b.3)
        ∙ ap (λ (x : Option Row). read (option_map (row_under_choice chosen) x) t) (value_is (Some b.0) o b.1 t b.3)

-- rows with the attributes of the chosen tags
abbrev rows_under_choice : (ℕ → Bool) → Listing Walk Row → Listing Walk Row
rows_under_choice chosen l = record { items = map (row_under_choice chosen) l.items; ending = l.ending }

within-choice : (limit : ℕ) (chosen : ℕ → Bool) (n : ℕ) (w : Walk)
    → fault_of (items_within n (row_or_end limit any_tag) w) ≡ None
    → items_within n (row_or_end limit chosen) w
    ≡ rows_under_choice chosen (items_within n (row_or_end limit any_tag) w)
unfolding items_within
within-choice limit chosen zero w none = refl
within-choice limit chosen (suc n) w none =
    by_step (row_or_end limit any_tag w) refl none (within-choice limit chosen n)
  where
    optional : (o : Option Row) (t : Walk)
        → fault_of (item_or_end o t (items_within n (row_or_end limit any_tag))) ≡ None
        → (fault_of (items_within n (row_or_end limit any_tag) t) ≡ None
        → items_within n (row_or_end limit chosen) t
        ≡ rows_under_choice chosen (items_within n (row_or_end limit any_tag) t))
        → item_or_end (option_map (row_under_choice chosen) o) t (items_within n (row_or_end limit chosen))
        ≡ rows_under_choice chosen (item_or_end o t (items_within n (row_or_end limit any_tag)))
    optional None t well again = refl
    optional (Some r) t well again =
        ap (λ (l : Listing Walk Row). prepend (row_under_choice chosen r ∷ []) l) (again well)

    by_step : (x : Result (Option Row × Walk) Error) → row_or_end limit any_tag w ≡ x
        → fault_of (next_item x (items_within n (row_or_end limit any_tag))) ≡ None
        → ((t : Walk) → fault_of (items_within n (row_or_end limit any_tag) t) ≡ None
        → items_within n (row_or_end limit chosen) t
        ≡ rows_under_choice chosen (items_within n (row_or_end limit any_tag) t))
        → next_item (row_or_end limit chosen w) (items_within n (row_or_end limit chosen))
        ≡ rows_under_choice chosen (next_item x (items_within n (row_or_end limit any_tag)))
    by_step (Err d) e well again = absurd cc
    by_step (Ok p) e well again =
        ap (λ (x : Result (Option Row × Walk) Error). next_item x (items_within n (row_or_end limit chosen)))
        (item-choice limit chosen w p.1 p.0 e)
        ∙ optional p.0 p.1 well (again p.1)

pub rows-choice : (limit : ℕ) (chosen : ℕ → Bool) (w : Walk) → fault_of (rows limit any_tag w) ≡ None
    → rows limit chosen w ≡ rows_under_choice chosen (rows limit any_tag w)
unfolding rows listing_in
rows-choice limit chosen w well = within-choice limit chosen (suc (bytes_left w.rest)) w well
