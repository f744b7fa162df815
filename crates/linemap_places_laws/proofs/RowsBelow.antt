-- The row of an address among those of lookups is the table's.
use Rattle.std.proofs.Common.{◌≡◌, ℕ, ◌≤◌, Bool, true, false, cond, ◌==◌, nat_lt, nat_le, List, [], ◌∷◌, map, filter, Option, Some, None, option_map, refl, sym, ap, ◌∙◌, arith}
use Rattle.std.specs.List.{last_or}
use Rattle.std.proofs.lemmas.Bool.{eqb-true, leb-true, le-leb, ltb-false, and_parts, and_from, or_parts}
use Rattle.addr2line_spec.specs.Lines.{LineRow, last_at_each_address, row_of}
use Rattle.addr2line_spec.specs.LookupLaws.{rows_ascend_from}
use Rattle.addr2line_spec.proofs.RowLookup.{last_at_or_below}
use Rattle.linemap_meaning.specs.TableParts.{RowPart}
use Rattle.linemap_meaning.specs.Conditions.{goes_back_from}
use Rattle.linemap_meaning.specs.Meaning.{last_row}
use Rattle.linemap_places_laws.proofs.AgreeingSequences.{row_kept}

-- ---- they ascend

from_lower : (low m : ℕ) (xs : List LineRow) → low ≤ m → rows_ascend_from m xs ≡ true → rows_ascend_from low xs ≡ true
from_lower low m [] le h = refl
from_lower low m (x ∷ xs) le h =
    let parts = and_parts (nat_le m x.address) (rows_ascend_from x.address xs) h in
    let above = leb-true m x.address parts.0 in
    and_from _ _ (le-leb low x.address (omega arith)) parts.1

kept_ascend : (number : ℕ → ℕ) (low : ℕ) (rs : List RowPart) → goes_back_from low rs ≡ false
    → rows_ascend_from low (map (row_kept number) rs) ≡ true
kept_ascend number low [] h = refl
kept_ascend number low (r ∷ rs) h =
    let parts = or_parts (nat_lt r.address low) (goes_back_from r.address rs) h in
    and_from _ _ (le-leb low r.address (ltb-false r.address low parts.0)) (kept_ascend number r.address rs parts.1)

last_ascend : (low : ℕ) (xs : List LineRow) → rows_ascend_from low xs ≡ true
    → rows_ascend_from low (last_at_each_address xs) ≡ true
last_ascend low [] h = refl
last_ascend low (r ∷ []) h = h
last_ascend low (r ∷ q ∷ qs) h =
    let parts = and_parts (nat_le low r.address) (rows_ascend_from r.address (q ∷ qs)) h in
    let rest = last_ascend r.address (q ∷ qs) parts.1 in
    by_case (q.address == r.address) parts.0 rest
  where
    by_case : (b : Bool) → nat_le low r.address ≡ true
        → rows_ascend_from r.address (last_at_each_address (q ∷ qs)) ≡ true
        → rows_ascend_from low (cond b (last_at_each_address (q ∷ qs)) (r ∷ last_at_each_address (q ∷ qs))) ≡ true
    by_case true above rest = from_lower low r.address (last_at_each_address (q ∷ qs)) (leb-true low r.address above)
        rest
    by_case false above rest = and_from _ _ above rest

-- ---- the last at or below an address

abbrev is_below : ℕ → LineRow → Bool
is_below a r = nat_le r.address a

-- a row before one at the same address is never the last
first_passed_over : (a : ℕ) (o : Option LineRow) (r q : LineRow) (qs : List LineRow) → q.address ≡ r.address
    → last_or o (filter (is_below a) (q ∷ qs)) ≡ last_or o (filter (is_below a) (r ∷ q ∷ qs))
first_passed_over a o r q qs same = by_case (nat_le r.address a) refl
  where
    at : (b : Bool) → last_or o (cond b (q ∷ filter (is_below a) qs) (filter (is_below a) qs))
        ≡ last_or o (cond b (r ∷ cond b (q ∷ filter (is_below a) qs) (filter (is_below a) qs))
        (cond b (q ∷ filter (is_below a) qs) (filter (is_below a) qs)))
    at true = refl
    at false = refl

    by_case : (b : Bool) → nat_le r.address a ≡ b
        → last_or o (filter (is_below a) (q ∷ qs)) ≡ last_or o (filter (is_below a) (r ∷ q ∷ qs))
    by_case b e =
        let e' : nat_le q.address a ≡ b = ap (λ n. nat_le n a) same ∙ e in
        ap (λ c. last_or o (cond c (q ∷ filter (is_below a) qs) (filter (is_below a) qs))) e'
        ∙ at b
        ∙ sym (ap (λ c. last_or o
        (cond c (r ∷ cond (nat_le q.address a) (q ∷ filter (is_below a) qs) (filter (is_below a) qs))
        (cond (nat_le q.address a) (q ∷ filter (is_below a) qs) (filter (is_below a) qs)))) e
        ∙ ap (λ c. last_or o
        (cond b (r ∷ cond c (q ∷ filter (is_below a) qs) (filter (is_below a) qs))
        (cond c (q ∷ filter (is_below a) qs) (filter (is_below a) qs)))) e')

last_is_kept : (a : ℕ) (o : Option LineRow) (xs : List LineRow)
    → last_or o (filter (is_below a) (last_at_each_address xs)) ≡ last_or o (filter (is_below a) xs)
last_is_kept a o [] = refl
last_is_kept a o (r ∷ []) = refl
last_is_kept a o (r ∷ q ∷ qs) = by_case (q.address == r.address) refl (λ p. last_is_kept a p (q ∷ qs))
  where
    by_below : (b : Bool)
        → ((p : Option LineRow) → last_or p (filter (is_below a) (last_at_each_address (q ∷ qs)))
        ≡ last_or p (filter (is_below a) (q ∷ qs)))
        → last_or o (cond b (r ∷ filter (is_below a) (last_at_each_address (q ∷ qs)))
        (filter (is_below a) (last_at_each_address (q ∷ qs))))
        ≡ last_or o (cond b (r ∷ filter (is_below a) (q ∷ qs)) (filter (is_below a) (q ∷ qs)))
    by_below true rest = rest (Some r)
    by_below false rest = rest o

    by_case : (b : Bool) → (q.address == r.address) ≡ b
        → ((p : Option LineRow) → last_or p (filter (is_below a) (last_at_each_address (q ∷ qs)))
        ≡ last_or p (filter (is_below a) (q ∷ qs)))
        → last_or o (filter (is_below a)
        (cond (q.address == r.address) (last_at_each_address (q ∷ qs)) (r ∷ last_at_each_address (q ∷ qs))))
        ≡ last_or o (filter (is_below a) (r ∷ q ∷ qs))
    by_case true e rest =
        ap (λ b. last_or o
        (filter (is_below a) (cond b (last_at_each_address (q ∷ qs)) (r ∷ last_at_each_address (q ∷ qs))))) e
        ∙ rest o ∙ first_passed_over a o r q qs (eqb-true q.address r.address e)
    by_case false e rest =
        ap (λ b. last_or o
        (filter (is_below a) (cond b (last_at_each_address (q ∷ qs)) (r ∷ last_at_each_address (q ∷ qs))))) e
        ∙ by_below (nat_le r.address a) rest

-- the last of the rows of lookups is that of the last row
last_of_kept : (number : ℕ → ℕ) (a : ℕ) (o : Option RowPart) (rs : List RowPart)
    → last_or (option_map (row_kept number) o) (filter (is_below a) (map (row_kept number) rs))
    ≡ option_map (row_kept number) (last_or o (filter (λ r. nat_le r.address a) rs))
last_of_kept number a o [] = refl
last_of_kept number a o (r ∷ rs) = by_case (nat_le r.address a) (λ p. last_of_kept number a p rs)
  where
    by_case : (b : Bool)
        → ((p : Option RowPart)
        → last_or (option_map (row_kept number) p) (filter (is_below a) (map (row_kept number) rs))
        ≡ option_map (row_kept number) (last_or p (filter (λ r. nat_le r.address a) rs)))
        → last_or (option_map (row_kept number) o)
        (cond b (row_kept number r ∷ filter (is_below a) (map (row_kept number) rs))
        (filter (is_below a) (map (row_kept number) rs)))
        ≡ option_map (row_kept number)
        (last_or o (cond b (r ∷ filter (λ r. nat_le r.address a) rs) (filter (λ r. nat_le r.address a) rs)))
    by_case true rest = rest (Some r)
    by_case false rest = rest o

pub row_agrees : (number : ℕ → ℕ) (a : ℕ) (rs : List RowPart) → goes_back_from 0 rs ≡ false
    → row_of (last_at_each_address (map (row_kept number) rs)) a ≡ option_map (row_kept number) (last_row rs a)
row_agrees number a rs h =
    last_at_or_below a (last_at_each_address (map (row_kept number) rs))
    (last_ascend 0 (map (row_kept number) rs) (kept_ascend number 0 rs h))
    ∙ last_is_kept a None (map (row_kept number) rs) ∙ last_of_kept number a None rs
