-- Walks over sequences by their starts: which they skip, and where they stop.
use Rattle.std.proofs.Common.{◌≡◌, ℕ, zero, suc, ◌+◌, ◌-◌, ◌<◌, ◌≤◌, max, true, false, cond, nat_lt, nat_le, List, [], ◌∷◌, ◌++◌, length, map, drop, slice_get, filter, flat_map, Option, Some, None, option_map, refl, ap, sym, ◌∙◌, arith}
use Rattle.std.specs.Prelude.{◌==◌, ◌&&◌, ◌||◌}
use Rattle.std.specs.List.{prefix_len, take_while}
use Rattle.std.proofs.lemmas.Bool.Decides.{nat_tests}
use Rattle.std.proofs.lemmas.List.Sums.{sum_by-cons}
use Rattle.addr2line_spec.specs.Range.{Range}
use Rattle.addr2line_spec.specs.Orders.{in_order}
use Rattle.addr2line_spec.specs.Lines.{Sequence, Stretch, range_of, rows_to, stretches_of, sequence_between, reaches, starts_after}
use Rattle.addr2line_search.specs.Searches.{digit_count}
use Rattle.addr2line_index.specs.SequenceOrders.{entry_of, with_greatest_ends, by_start, bounded_by}
use Rattle.addr2line_index.specs.Stretches.{sequence_from}
use Rattle.addr2line_index.specs.LineCursors.{stretches_among, walk_probes}
use Rattle.addr2line_index.proofs.SequenceOrderLemmas.{by_start-is}
use Rattle.addr2line_index.proofs.SortedOrder.{NotLess, Ascends, Ascends-in_order}
use Rattle.addr2line_index.proofs.StretchLemmas.{starts_before, starts_is_order, stretches_of-drop, drop_at}

-- a sequence has this range
abbrev pub IsAt : List Sequence → ℕ → Range → Type 0
IsAt ss n r = option_map range_of (slice_get ss n) ≡ Some r

module _ (low high : ℕ) where
  too_high : (start end : ℕ) → high ≤ start → (nat_lt start high && nat_lt low end) ≡ false
  too_high start end h = grind (arith, nat_tests)

  too_low : (start end : ℕ) → end ≤ low → (nat_lt start high && nat_lt low end) ≡ false
  too_low start end h = grind (arith, nat_tests)

  between : (start end : ℕ) → start < high → low < end → (nat_lt start high && nat_lt low end) ≡ true
  between start end h k = grind (arith, nat_tests)

  le_from : (a : ℕ) → nat_le a low ≡ true → a ≤ low
  le_from a h = grind (arith, nat_tests)

  one_before : (n : ℕ) → 1 + n ≡ suc n
  one_before n = omega arith

  -- ---- where a walk begins

  -- it may begin where one has ended above the low end
  walk_from : (greatest : ℕ) (ss : List Sequence)
      → filter (reaches low high)
      (drop (prefix_len (bounded_by low) (with_greatest_ends greatest (map entry_of ss))) ss)
      ≡ filter (reaches low high) ss
  walk_from greatest [] = refl
  walk_from greatest (s ∷ ss) =
      let count = prefix_len (bounded_by low) (with_greatest_ends (max greatest s.end) (map entry_of ss)) in
      elim (nat_le (max greatest s.end) low) as (λ b. nat_le (max greatest s.end) low ≡ b
      → filter (reaches low high) (drop (cond b (1 + count) 0) (s ∷ ss)) ≡ filter (reaches low high) (s ∷ ss)) [
        | true ↦ λ below.
            let ended : max greatest s.end ≤ low = le_from (max greatest s.end) below in
            ap (λ n. filter (reaches low high) (drop n (s ∷ ss))) (one_before count)
            ∙ walk_from (max greatest s.end) ss
            ∙ sym (ap (λ b. cond b (s ∷ filter (reaches low high) ss) (filter (reaches low high) ss))
            (too_low s.start s.end (omega arith)))
        | false ↦ λ _. refl
      ] refl

  pub walk_begins : (files : List (List ℕ)) (ss : List Sequence)
      → stretches_among files low high (drop (prefix_len (bounded_by low) (by_start ss)) (in_order starts_after ss))
      ≡ stretches_among files low high (in_order starts_after ss)
  walk_begins files ss =
      ap (flat_map (sequence_between files low high))
      (ap (λ es. filter (reaches low high) (drop (prefix_len (bounded_by low) es) (in_order starts_after ss)))
      (by_start-is ss)
      ∙ walk_from 0 (in_order starts_after ss))

  -- ---- where it stops

  not_after : (a e b f : ℕ) → (nat_lt b a || (a == b && nat_lt f e)) ≡ false → a ≤ b
  not_after a e b f h = grind (arith, nat_tests)

  none_reach : (t : Sequence) (ss : List Sequence) → high ≤ t.start
      → NotLess (starts_before (λ s. s)) (starts_is_order (λ s. s)) t ss → filter (reaches low high) ss ≡ []
  none_reach t [] h up = refl
  none_reach t (s ∷ ss) h up =
      let start : t.start ≤ s.start = not_after t.start t.end s.start s.end up.0 in
      ap (λ b. cond b (s ∷ filter (reaches low high) ss) (filter (reaches low high) ss))
      (too_high s.start s.end (omega arith))
      ∙ none_reach t ss h up.1

  all_high : (n : ℕ) (ss : List Sequence) (r : Range)
      → Ascends (starts_before (λ s. s)) (starts_is_order (λ s. s)) ss → IsAt ss n r → high ≤ r.begin
      → filter (reaches low high) (drop n ss) ≡ []
  all_high n [] r up is h = absurd (cc)
  all_high zero (s ∷ ss) r up is h =
      let same : range_of s ≡ r = cc in
      let start : s.start ≡ r.begin = ap (λ (q : Range). q.begin) same in
      ap (λ b. cond b (s ∷ filter (reaches low high) ss) (filter (reaches low high) ss))
      (too_high s.start s.end (omega arith))
      ∙ none_reach s ss (omega arith) up.0
  all_high (suc n) (s ∷ ss) r up is h = all_high n ss r up.1 is h

  pub walk_ends : (files : List (List ℕ)) (ss : List Sequence) (n : ℕ) (r : Range)
      → IsAt (in_order starts_after ss) n r → high ≤ r.begin
      → stretches_among files low high (drop n (in_order starts_after ss)) ≡ []
  walk_ends files ss n r is h =
      ap (flat_map (sequence_between files low high))
      (all_high n (in_order starts_after ss) r (Ascends-in_order (starts_before (λ s. s)) (starts_is_order (λ s. s)) ss)
      is h)

  -- ---- one sequence on

  -- one that has ended is skipped
  skips : (files : List (List ℕ)) (ss : List Sequence) (n : ℕ) (r : Range) → IsAt ss n r → r.end ≤ low
      → stretches_among files low high (drop n ss) ≡ stretches_among files low high (drop (suc n) ss)
  skips files [] n r is h = absurd (cc)
  skips files (s ∷ ss) zero r is h =
      let same : range_of s ≡ r = cc in
      let end : s.end ≡ r.end = ap (λ (q : Range). q.end) same in
      ap (λ b. flat_map (sequence_between files low high)
      (cond b (s ∷ filter (reaches low high) ss) (filter (reaches low high) ss)))
      (too_low s.start s.end (omega arith))
  skips files (s ∷ ss) (suc n) r is h = skips files ss n r is h

  pub walk_skips : (files : List (List ℕ)) (ss : List Sequence) (n : ℕ) (r : Range) → IsAt ss n r → r.end ≤ low
      → stretches_among files low high (drop n ss) ≡ stretches_among files low high (drop (n + 1) ss)
  walk_skips files ss n r is h =
      let next : suc n ≡ n + 1 = omega arith in
      skips files ss n r is h ∙ ap (λ k. stretches_among files low high (drop k ss)) next

  -- one between the ends is entered at its first row there
  enters : (files : List (List ℕ)) (ss : List Sequence) (n row : ℕ) (r : Range) (s : Sequence) → IsAt ss n r
      → slice_get ss n ≡ Some s → r.begin < high → low < r.end → row ≡ rows_to low s.rows - 1
      → stretches_among files low high (drop n ss)
      ≡ sequence_from files high row (slice_get ss n) ++ stretches_among files low high (drop (suc n) ss)
  enters files [] n row r s is at h k first = absurd (cc)
  enters files (t ∷ ss) zero row r s is at h k first =
      let same : t ≡ s = cc in
      let range : range_of t ≡ r = cc in
      let start : t.start ≡ r.begin = ap (λ (q : Range). q.begin) range in
      let end : t.end ≡ r.end = ap (λ (q : Range). q.end) range in
      let rest = flat_map (sequence_between files low high) (filter (reaches low high) ss) in
      let number : row ≡ rows_to low t.rows - 1 = first ∙ ap (λ (q : Sequence). rows_to low q.rows - 1) (sym same) in
      ap (λ b. flat_map (sequence_between files low high)
      (cond b (t ∷ filter (reaches low high) ss) (filter (reaches low high) ss)))
      (between t.start t.end (omega arith) (omega arith))
      ∙ ap (λ l. take_while (λ (x : Stretch). nat_lt x.address high) l ++ rest)
      (ap (λ i. drop i (stretches_of files t.end t.rows)) (sym number)
      ∙ sym (stretches_of-drop files t.end row t.rows))
  enters files (t ∷ ss) (suc n) row r s is at h k first = enters files ss n row r s is at h k first

  pub walk_enters : (files : List (List ℕ)) (ss : List Sequence) (n row : ℕ) (r : Range) (s : Sequence) → IsAt ss n r
      → slice_get ss n ≡ Some s → r.begin < high → low < r.end → row ≡ rows_to low s.rows - 1
      → stretches_among files low high (drop n ss)
      ≡ sequence_from files high row (slice_get ss n) ++ stretches_among files low high (drop (n + 1) ss)
  walk_enters files ss n row r s is at h k first =
      let next : suc n ≡ n + 1 = omega arith in
      enters files ss n row r s is at h k first
      ∙ ap (λ i. sequence_from files high row (slice_get ss n) ++ stretches_among files low high (drop i ss)) next

-- ---- looks

-- those at the next sequence and at the ones after it
pub walk_probes-at : (ss : List Sequence) (n : ℕ) (s : Sequence) → slice_get ss n ≡ Some s
    → walk_probes (drop n ss) ≡ (digit_count (length s.rows) + 5) + walk_probes (drop (n + 1) ss)
walk_probes-at ss n s is =
    ap walk_probes (drop_at n ss s is)
    ∙ sum_by-cons (λ (t : Sequence). digit_count (length t.rows) + 5) s (drop (n + 1) ss)

of_range : (r : Range) (o : Option Sequence) → option_map range_of o ≡ Some r → (s : Sequence) × (o ≡ Some s)
of_range r None is = absurd (cc)
of_range r (Some s) is = (s, refl)

-- five at least are at one that is skipped
pub walk_probes-skip : (ss : List Sequence) (n : ℕ) (r : Range) → IsAt ss n r
    → walk_probes (drop (n + 1) ss) + 5 ≤ walk_probes (drop n ss)
walk_probes-skip ss n r is =
    let found = of_range r (slice_get ss n) is in
    let at = walk_probes-at ss n found.0 found.1 in
    omega arith
