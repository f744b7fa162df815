-- How the rows of a walk go on and end: what loops over entries need.
use Rattle.std.proofs.Common.{◌≡◌, ℕ, ◌<◌, Bool, true, false, cond, eqb, [], ◌∷◌, Option, Some, None, Result, Ok, Err, refl, ap, arith}
use Rattle.std.proofs.lemmas.Bool.{eqb-true}
use Rattle.gimli_core_base.specs.declared.error.Error.{Error}
use Rattle.gimli_core_base.specs.View.{bytes_left}
use Rattle.gimli_core_base.specs.Parsers.{proceed, give}
use Rattle.gimli_core_base.specs.Repetition.{no_items, prepend}
use Rattle.gimli_core_base.proofs.StepParts.{read}
use Rattle.gimli_core_base.proofs.Listings.{listing_item, listing_end, listing_fault}
use Rattle.gimli_units_entries.specs.EntryWalks.{Walk}
use Rattle.gimli_units_entries.specs.EntryRows.{Row, row_choosing, row_or_end, rows}
use Rattle.gimli_units_entries.proofs.RowParts.{row-parts, row-takes}
use Rattle.gimli_units_entries.proofs.RowLaws.{rows-shrink}

-- what a walk lists next, by its next row
abbrev item_of : Result (Row × Walk) Error → Result (Option Row × Walk) Error
item_of r = proceed r (λ x. give (Some x))

row_or_end-there : (limit : ℕ) (chosen : ℕ → Bool) (w : Walk) (r : Result (Row × Walk) Error) → 0 < bytes_left w.rest
    → row_choosing limit chosen w ≡ r → row_or_end limit chosen w ≡ item_of r
unfolding row_or_end
row_or_end-there limit chosen w r some h = by_test (eqb (bytes_left w.rest) 0) refl
  where
    by_test : (b : Bool) → eqb (bytes_left w.rest) 0 ≡ b
        → cond b (read None w) (item_of (row_choosing limit chosen w)) ≡ item_of r
    by_test true e = let zero = eqb-true (bytes_left w.rest) 0 e in absurd (omega arith)
    by_test false e = ap item_of h

-- a row that is read comes first
pub rows-next : (limit : ℕ) (chosen : ℕ → Bool) (w t : Walk) (r : Row) → row_choosing limit chosen w ≡ Ok (r, t)
    → rows limit chosen w ≡ prepend (r ∷ []) (rows limit chosen t)
unfolding rows
rows-next limit chosen w t r h =
    let takes = row-takes limit chosen w t r (row-parts limit chosen w t r h) in
    listing_item (rows-shrink limit chosen) [] r w t (row_or_end-there limit chosen w (read r t) (omega arith) h)

-- a row that can't be read ends them
pub rows-fault : (limit : ℕ) (chosen : ℕ → Bool) (w : Walk) (d : Error) → 0 < bytes_left w.rest
    → row_choosing limit chosen w ≡ Err d → rows limit chosen w ≡ no_items (Err d)
unfolding rows
rows-fault limit chosen w d some h =
    listing_fault (rows-shrink limit chosen) w d (row_or_end-there limit chosen w (Err d) some h)

-- they end where no byte is left
pub rows-end : (limit : ℕ) (chosen : ℕ → Bool) (w : Walk) → bytes_left w.rest ≡ 0
    → rows limit chosen w ≡ no_items (Ok w)
unfolding rows row_or_end
rows-end limit chosen w h =
    listing_end (rows-shrink limit chosen) w w
    (ap (λ (n : ℕ). cond (eqb n 0) (read None w) (item_of (row_choosing limit chosen w))) h)
