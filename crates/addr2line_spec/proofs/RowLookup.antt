-- Where rows ascend, the row of an address is the last at or below it.
use Rattle.std.proofs.Common.{◌≡◌, ℕ, ◌<◌, Bool, true, false, cond, nat_le, List, [], ◌∷◌, filter, None, refl, sym, ap, ◌∙◌, arith}
use Rattle.std.specs.List.{last_or, take_while}
use Rattle.std.proofs.lemmas.Bool.{leb-true, leb-false, lt-leb, and_parts}
use Rattle.std.proofs.lemmas.List.Sums.{take_while-cons}
use Rattle.addr2line_spec.specs.Lines.{LineRow, row_of}
use Rattle.addr2line_spec.specs.LookupLaws.{rows_ascend_from}

abbrev is_below : ℕ → LineRow → Bool
is_below a r = nat_le r.address a

-- rows from above an address on are none at or below it
none_below : (a low : ℕ) (rows : List LineRow) → a < low → rows_ascend_from low rows ≡ true
    → filter (is_below a) rows ≡ []
none_below a low [] lt h = refl
none_below a low (r ∷ rs) lt h =
    let parts = and_parts (nat_le low r.address) (rows_ascend_from r.address rs) h in
    let le = leb-true low r.address parts.0 in
    ap (λ b. cond b (r ∷ filter (is_below a) rs) (filter (is_below a) rs)) (lt-leb r.address a (omega arith))
    ∙ none_below a r.address rs (omega arith) parts.1

-- those before the first above an address are all that are at or below it
pub rows_before : (a low : ℕ) (rows : List LineRow) → rows_ascend_from low rows ≡ true
    → take_while (is_below a) rows ≡ filter (is_below a) rows
rows_before a low [] h = refl
rows_before a low (r ∷ rs) h =
    let parts = and_parts (nat_le low r.address) (rows_ascend_from r.address rs) h in
    take_while-cons (is_below a) r rs
    ∙ elim (nat_le r.address a) as (λ b. nat_le r.address a ≡ b
    → cond b (r ∷ take_while (is_below a) rs) [] ≡ cond b (r ∷ filter (is_below a) rs) (filter (is_below a) rs)) [
      | true ↦ λ _. ap (λ l. r ∷ l) (rows_before a r.address rs parts.1)
      | false ↦ λ e. sym (none_below a r.address rs (leb-false r.address a e) parts.1)
    ] refl

pub last_at_or_below : (a : ℕ) (rows : List LineRow) → rows_ascend_from 0 rows ≡ true
    → row_of rows a ≡ last_or None (filter (λ r. nat_le r.address a) rows)
last_at_or_below a rows h = ap (last_or None) (rows_before a 0 rows h)
