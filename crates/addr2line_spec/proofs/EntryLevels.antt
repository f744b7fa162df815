-- How deep the entries below a function are, and in which others.
use Rattle.std.proofs.Common.{◌≡◌, ℕ, zero, suc, ◌+◌, ℤ, pos, ◌+ℤ◌, ◌≤ℤ◌, ◌<ℤ◌, int_lt, Bool, true, false, cond, List, [], ◌∷◌, length, Option, Some, None, Result, Ok, Err, All, refl, sym, ap, subst, ◌∙◌, arith}
use Rattle.std.specs.List.{list_all}
use Rattle.std.proofs.lemmas.Int.{ints}
use Rattle.std.proofs.lemmas.Bool.{and_from}
use Rattle.std.proofs.lemmas.List.Elements.{All-nil, All-cons}
use Rattle.gimli_lines_machine.specs.Error.{Error}
use Rattle.gimli_lines_machine.specs.View.{bytes_left}
use Rattle.gimli_lines_machine.specs.Repetition.{items_within, listing_in, next_item}
use Rattle.gimli_dwarf_spec.specs.Declarations.{Declaration}
use Rattle.gimli_dwarf_spec.specs.AttributeValues.{RawAttribute}
use Rattle.gimli_dwarf_spec.specs.EntryWalks.{Walk, next_offset, depth_after}
use Rattle.gimli_dwarf_spec.specs.EntryRows.{Row, row_of, row_choosing}
use Rattle.gimli_dwarf_spec.proofs.RowParts.{row-parts}
use Rattle.addr2line_spec.specs.InlinedCalls.{FunctionWalk, enclosing_rows, is_call_in, entry_of_row, entry_below, entries_below, entries_of}
use Rattle.addr2line_spec.specs.InlinedCallLaws.{IsEnclosed}

-- ---- tests of integers

pub lt_from : (a b : ℤ) → a <ℤ b → int_lt a b ≡ true
lt_from a b h = grind (arith, ints)

pub not_lt_from : (a b : ℤ) → b ≤ℤ a → int_lt a b ≡ false
not_lt_from a b h = grind (arith, ints)

pub lt_is : (a b : ℤ) → int_lt a b ≡ true → a <ℤ b
lt_is a b h = grind (arith, ints)

pub not_lt_is : (a b : ℤ) → int_lt a b ≡ false → b ≤ℤ a
not_lt_is a b h = grind (arith, ints)

-- ---- one row

-- a row is at its walk's depth, and the next one a level deeper at most, where the row has children
pub record Leads (w : Walk) (r : Row) (t : Walk) : Type 0 where
  pub at : r.depth ≡ w.depth
  pub level : t.depth ≤ℤ (w.depth +ℤ pos 1)
  pub deeper : w.depth <ℤ t.depth → r.has_children ≡ true

path_by_depth : (w t : Walk) (r : Row) (found : List RawAttribute) (d : Option Declaration)
    → row_of (next_offset w) w.depth d found ≡ r → depth_after w.depth d ≡ t.depth → Leads w r t
path_by_depth w t r found None is leads = record {
  at = sym (ap (λ (x : Row). x.depth) is);
  level = omega (arith, ints);
  deeper = λ h. absurd (omega (arith, ints));
}
path_by_depth w t r found (Some d) is leads = by d.has_children refl leads
  where
    by : (b : Bool) → d.has_children ≡ b → cond b (w.depth +ℤ pos 1) w.depth ≡ t.depth → Leads w r t
    by true has same = record {
      at = sym (ap (λ (x : Row). x.depth) is);
      level = omega (arith, ints);
      deeper = λ _. sym (ap (λ (x : Row). x.has_children) is) ∙ has;
    }
    by false has same = record {
      at = sym (ap (λ (x : Row). x.depth) is);
      level = omega (arith, ints);
      deeper = λ h. absurd (omega (arith, ints));
    }

pub leads : (limit : ℕ) (chosen : ℕ → Bool) (w t : Walk) (r : Row) → row_choosing limit chosen w ≡ Ok (r, t)
    → Leads w r t
leads limit chosen w t r e =
    let h = row-parts limit chosen w t r e in
    path_by_depth w t r h.found h.declaration h.is_row (ap (λ (x : Walk). x.depth) h.leads)

-- ---- above

-- what the row before isn't above, it is not counted for
pub enclosing_rows-same : (d : ℤ) (r : Row) (before : List Row) → d ≤ℤ r.depth
    → enclosing_rows d (r ∷ before) ≡ enclosing_rows d before
enclosing_rows-same d r before h =
    ap (λ b. cond b (r ∷ enclosing_rows r.depth before) (enclosing_rows d before)) (not_lt_from r.depth d h)

pub enclosing_rows-more : (d : ℤ) (r : Row) (before : List Row) → r.depth <ℤ d
    → enclosing_rows d (r ∷ before) ≡ r ∷ enclosing_rows r.depth before
enclosing_rows-more d r before h =
    ap (λ b. cond b (r ∷ enclosing_rows r.depth before) (enclosing_rows d before)) (lt_from r.depth d h)

-- an entry of a depth would be in as many as it says
pub record IsDepth (d : ℤ) (outer : List Row) : Type 0 where
  pub as_deep : d ≡ pos (length outer + 1)
  pub all_open : list_all (λ r. r.has_children) outer ≡ true

-- an entry of any depth that may come next
abbrev Fits : List Row → ℤ → Type 0
Fits before most = (d : ℤ) → pos 1 ≤ℤ d → d ≤ℤ most → IsDepth d (enclosing_rows d before)

fits_after : (w t : Walk) (r : Row) (before : List Row) → Leads w r t → Fits before w.depth → pos 0 <ℤ w.depth
    → Fits (r ∷ before) t.depth
fits_after w t r before h fits some d low high = by (int_lt w.depth d) refl
  where
    by : (b : Bool) → int_lt w.depth d ≡ b → IsDepth d (enclosing_rows d (r ∷ before))
    by false e =
        let le = not_lt_is w.depth d e in
        let level = h.at in
        let P : List Row → Type 0 = IsDepth d in
        subst P (sym (enclosing_rows-same d r before (omega (arith, ints)))) (fits d low le)
    by true e =
        let lt = lt_is w.depth d e in
        let level = h.at in
        let most = h.level in
        let P : List Row → Type 0 = IsDepth d in
        let here = fits w.depth (omega (arith, ints)) (omega (arith, ints)) in
        let deep = here.as_deep in
        let outer : enclosing_rows r.depth before ≡ enclosing_rows w.depth before =
        ap (λ x. enclosing_rows x before) h.at in
        let placed : IsDepth d (r ∷ enclosing_rows w.depth before) = record {
          as_deep = omega (arith, ints);
          all_open =
              and_from r.has_children (list_all (λ (x : Row). x.has_children) (enclosing_rows w.depth before))
              (h.deeper (omega (arith, ints))) here.all_open;
        } in
        subst P (sym (enclosing_rows-more d r before (omega (arith, ints)) ∙ ap (λ l. r ∷ l) outer)) placed

-- ---- all entries below

all_enclosed : (limit n : ℕ) (i : FunctionWalk) → Fits i.before i.walk.depth
    → All IsEnclosed (items_within n (entry_below limit) i).items
unfolding items_within
all_enclosed limit zero i fits = All-nil IsEnclosed
all_enclosed limit (suc n) i fits = by (int_lt (pos 0) i.walk.depth) refl (all_enclosed limit n)
  where
    outer : List Row
    outer = enclosing_rows i.walk.depth i.before

    by_row : (x : Result (Row × Walk) Error) → row_choosing limit (is_call_in outer) i.walk ≡ x → pos 0 <ℤ i.walk.depth
        → ((j : FunctionWalk) → Fits j.before j.walk.depth
        → All IsEnclosed (items_within n (entry_below limit) j).items)
        → All IsEnclosed (next_item (entry_of_row i x) (items_within n (entry_below limit))).items
    by_row (Err e) is some again = All-nil IsEnclosed
    by_row (Ok x) is some again =
        let h = leads limit (is_call_in outer) i.walk x.1 x.0 is in
        let here = fits i.walk.depth (omega (arith, ints)) (omega (arith, ints)) in
        let j : FunctionWalk = record { walk = x.1; before = x.0 ∷ i.before } in
        All-cons IsEnclosed (record { row = x.0; outer = outer }) (items_within n (entry_below limit) j).items
        (record { as_deep = h.at ∙ here.as_deep; all_open = here.all_open })
        (again j (fits_after i.walk x.1 x.0 i.before h fits some))

    by : (b : Bool) → int_lt (pos 0) i.walk.depth ≡ b
        → ((j : FunctionWalk) → Fits j.before j.walk.depth
        → All IsEnclosed (items_within n (entry_below limit) j).items)
        → All IsEnclosed
        (next_item (cond b (entry_of_row i (row_choosing limit (is_call_in outer) i.walk)) (Ok (None, i)))
        (items_within n (entry_below limit))).items
    by true e again = by_row (row_choosing limit (is_call_in outer) i.walk) refl (lt_is (pos 0) i.walk.depth e) again
    by false e again = All-nil IsEnclosed

pub each_is_enclosed : (limit : ℕ) (w : Walk) → w.depth ≡ pos 1 → All IsEnclosed (entries_of limit w).items
unfolding entries_below listing_in
each_is_enclosed limit w one =
    all_enclosed limit (suc (bytes_left w.rest)) (record { walk = w; before = [] }) (λ d low high. record {
      as_deep = omega (arith, ints);
      all_open = refl;
    })
