-- Where a search among ranges by their ends starts and stops.
use Rattle.std.proofs.Common.{◌≡◌, ℕ, zero, suc, ◌+◌, ◌-◌, ◌<◌, ◌≤◌, min, Bool, true, false, cond, nat_lt, nat_le, List, [], ◌∷◌, ◌++◌, length, map, drop, reverse, filter, get_or, refl, sym, ap, ◌∙◌, subst, arith, append_assoc}
use Rattle.std.specs.Prelude.{◌&&◌, ◌||◌, Option, Some, None, MatchOption}
use Rattle.std.specs.List.{prefix_len}
use Rattle.std.specs.List.Sorted.{IsNonDecreasingBy, IsPartitionPoint, IsPartitionedBy}
use Rattle.std.proofs.lemmas.Bool.Decides.{nat_tests}
use Rattle.std.proofs.lemmas.List.{get_or-map, length-map, drop_all, reverse-append}
use Rattle.std.proofs.lemmas.List.Elements.{filter-append}
use Rattle.std.proofs.lemmas.List.Sums.{prefix_len_is}
use Rattle.std.proofs.lemmas.List.Sorted.{IsPartitionedBy-leb}
use Rattle.addr2line_spec.specs.Range.{Range}
use Rattle.addr2line_spec.specs.Pairs.{overlaps}
use Rattle.addr2line_index.specs.declared.unit_range.UnitRange.{UnitRange}
use Rattle.addr2line_index.specs.declared.shared_range.SharedRange.{SharedRange}
use Rattle.addr2line_index.specs.declared.bounded_range.BoundedRange.{BoundedRange}
use Rattle.addr2line_index.specs.NumberedRanges.{overlapping_ranges}
use Rattle.addr2line_index.specs.SharedRanges.{in_units, more_units, pairs_in, count_in_all}
use Rattle.addr2line_index.proofs.SharedRangeLemmas.{shared_end, filter-units}
use Rattle.addr2line_index.specs.BoundedRanges.{least_begin, shared_in, ranges_in, IsBounded, CountsFrom, end_of, ends_by, is_skipped, IsInOrder, IsCounted, index_of, pairs_left, IsBehind, IsNextPair, IsNextOverlap}

-- ---- made from the last on

-- those of ranges that are made, after the ones that are left
abbrev pub AreMade : List SharedRange → List SharedRange → ℕ → ℕ → List BoundedRange → Type 0
AreMade all left least after es =
    (left ++ shared_in es ≡ all) × (least ≡ least_begin es) × (after ≡ count_in_all left) × IsBounded es
    × CountsFrom after es

count_in_all-last : (rest : List SharedRange) (s : SharedRange)
    → count_in_all (rest ++ s ∷ []) ≡ count_in_all rest + suc (more_units s)
count_in_all-last [] s = omega arith
count_in_all-last (r ∷ rest) s = omega (arith, count_in_all-last rest s)

pub count-last : (left rest : List SharedRange) (s : SharedRange) → left ≡ rest ++ s ∷ []
    → count_in_all left ≡ count_in_all rest + suc (more_units s)
count-last left rest s is = ap count_in_all is ∙ count_in_all-last rest s

pub made_more : (all rest left : List SharedRange) (s : SharedRange) (least next after before : ℕ)
    (es : List BoundedRange) → left ≡ rest ++ s ∷ [] → next ≡ min least s.range.begin
    → before ≡ after - more_units s - 1 → AreMade all left least after es
    → AreMade all rest next before (record { shared = s; least_begin = next; after = after } ∷ es)
made_more all rest left s least next after before es is lower fewer made =
    let many = count-last left rest s is in
    let low : next ≡ min s.range.begin (least_begin es) = omega arith in (
      sym (append_assoc rest (s ∷ []) (shared_in es)) ∙ ap (λ l. l ++ shared_in es) (sym is) ∙ made.0,
      low,
      omega arith,
      (low, made.3),
      (omega arith, made.4),
    )

pub reverse-push : (made pushed : List BoundedRange) (e : BoundedRange) → pushed ≡ made ++ e ∷ []
    → reverse pushed ≡ e ∷ reverse made
reverse-push made pushed e is = ap reverse is ∙ reverse-append made (e ∷ [])

-- ---- what is known of bounded ranges

pub bounded_at : (n : ℕ) (es : List BoundedRange) (d : BoundedRange) → n < length es → IsBounded es
    → (get_or es n d).least_begin ≡ least_begin (drop n es)
bounded_at n [] d below is = absurd (omega arith)
bounded_at zero (e ∷ es) d below is = is.0
bounded_at (suc n) (e ∷ es) d below is = bounded_at n es d (omega arith) is.1

pub counted_at : (n before : ℕ) (es : List BoundedRange) (d : BoundedRange) → n < length es → CountsFrom before es
    → before + suc (more_units (get_or es n d).shared) ≤ (get_or es n d).after
counted_at n before [] d below is = absurd (omega arith)
counted_at zero before (e ∷ es) d below is = omega arith
counted_at (suc n) before (e ∷ es) d below is =
    let later = counted_at n e.after es d (omega arith) is.1 in omega arith

pub counted_here : (n : ℕ) (es : List BoundedRange) (d : BoundedRange) → n < length es → CountsFrom 0 es
    → IsCounted (get_or es n d)
counted_here n es d below is = omega (arith, counted_at n 0 es d below is)

-- ---- where a search stops

and_false : (b : Bool) → b && false ≡ false
and_false true = refl
and_false false = refl

above_lt : (a b : ℕ) → a ≤ b → nat_lt b a ≡ false
above_lt a b h = grind (arith, nat_tests)

le_above : (a b : ℕ) → nat_le b a ≡ true → b ≤ a
le_above a b h = grind (arith, nat_tests)

above_overlaps_not : (low high begin end : ℕ) → high ≤ begin
    → overlaps low high (record { begin = begin; end = end }) ≡ false
above_overlaps_not low high begin end h =
    ap (λ b. nat_lt low end && b) (above_lt high begin h) ∙ and_false (nat_lt low end)

-- none begins below 0
pub none_below : (low : ℕ) (rs : List UnitRange) → overlapping_ranges low 0 rs ≡ []
none_below low [] = refl
none_below low (r ∷ rs) =
    ap (λ b. cond b (r ∷ overlapping_ranges low 0 rs) (overlapping_ranges low 0 rs))
    (above_overlaps_not low 0 r.range.begin r.range.end (omega arith))
    ∙ none_below low rs

-- ---- where it starts

one_before : (n : ℕ) → 1 + n ≡ suc n
one_before n = omega arith

ended_overlaps_not : (low high begin end : ℕ) → nat_le end low ≡ true
    → overlaps low high (record { begin = begin; end = end }) ≡ false
ended_overlaps_not low high begin end h =
    ap (λ b. b && nat_lt begin high) (above_lt end low (le_above low end h))

-- ---- pairs from an index on

length-units : (r : Range) (unit more : ℕ) → length (in_units r unit more) ≡ suc more
length-units r unit zero = refl
length-units r unit (suc more) = ap suc (length-units r (unit + 1) more)

cond_same : (b : Bool) (rs : List UnitRange) → cond b rs rs ≡ rs
cond_same true rs = refl
cond_same false rs = refl

drop-none : (n : ℕ) → drop n (let none : List UnitRange = [] in none) ≡ []
drop-none n = drop_all n [] (omega arith)

-- a test of the range passes all that are left of its units or none
filter-drop_units : (p : Range → Bool) (n : ℕ) (r : Range) (unit more : ℕ)
    → filter (λ (x : UnitRange). p x.range) (drop n (in_units r unit more))
    ≡ cond (p r) (drop n (in_units r unit more)) []
filter-drop_units p zero r unit more = filter-units p r unit more
filter-drop_units p (suc n) r unit zero =
    ap (filter (λ (x : UnitRange). p x.range)) (drop-none n)
    ∙ sym (ap (λ l. cond (p r) l []) (drop-none n) ∙ cond_same (p r) [])
filter-drop_units p (suc n) r unit (suc more) = filter-drop_units p n r (unit + 1) more

-- of one range from a number of them on
drop-units : (n : ℕ) (r : Range) (unit more : ℕ) → n ≤ more
    → drop n (in_units r unit more) ≡ record { range = r; unit = unit + n } ∷ drop (suc n) (in_units r unit more)
drop-units zero r unit zero le =
    let same : unit ≡ unit + 0 = omega arith in ap (λ u. record { range = r; unit = u } ∷ []) same
drop-units zero r unit (suc more) le =
    let same : unit ≡ unit + 0 = omega arith in
    ap (λ u. record { range = r; unit = u } ∷ in_units r (unit + 1) more) same
drop-units (suc n) r unit zero le = absurd (omega arith)
drop-units (suc n) r unit (suc more) le =
    let same : unit + 1 + n ≡ unit + suc n = omega arith in
    drop-units n r (unit + 1) more (omega arith)
    ∙ ap (λ u. record { range = r; unit = u } ∷ drop (suc n) (in_units r (unit + 1) more)) same

-- the pair at an index, and those after it
pub next_pair : (from : ℕ) (e : BoundedRange) (unit next later : ℕ) → IsCounted e → from < e.after
    → later ≡ min (more_units e.shared) (e.after - from - 1) → unit ≡ e.shared.first + (more_units e.shared - later)
    → next ≡ e.after - later → IsNextPair from e (record { range = e.shared.range; unit = unit }, next)
next_pair from e unit next later counted below is here after =
    let first : e.shared.first + (from - index_of e) ≡ unit = omega arith in
    let rest : suc (from - index_of e) ≡ next - index_of e = omega arith in (
      (below, omega arith, omega arith),
      drop-units (from - index_of e) e.shared.range e.shared.first (more_units e.shared) (omega arith)
          ∙ ap (λ u. record { range = e.shared.range; unit = u } ∷ drop (suc (from - index_of e)) (pairs_in e.shared))
          first
          ∙ ap (λ n. record { range = e.shared.range; unit = unit } ∷ drop n (pairs_in e.shared)) rest,
    )

-- what is said of a value that may be there, and of none, becomes what follows from it
pub if_found : {X : Type 0} {P Q : Type 0} {R S : X → Type 0} (r : Option X) → (P → Q) → ((x : X) → R x → S x)
    → MatchOption r P R → MatchOption r Q S
if_found None none some h = none h
if_found (Some x) none some h = some x h

-- none are left from an index after the last on
pub none_left : (from : ℕ) (e : BoundedRange) → IsCounted e → e.after ≤ from → pairs_left from e ≡ []
none_left from e counted over =
    drop_all (from - index_of e) (pairs_in e.shared)
    (omega (arith, length-units e.shared.range e.shared.first (more_units e.shared)))

module _ (low high : ℕ) where
  overlapping_left : (from : ℕ) (e : BoundedRange) → overlapping_ranges low high (pairs_left from e)
      ≡ cond (overlaps low high e.shared.range) (pairs_left from e) []
  overlapping_left from e =
      filter-drop_units (overlaps low high) (from - index_of e) e.shared.range e.shared.first (more_units e.shared)

  pub left_overlaps : (from : ℕ) (e : BoundedRange) → overlaps low high e.shared.range ≡ true
      → overlapping_ranges low high (pairs_left from e) ≡ pairs_left from e
  left_overlaps from e is = overlapping_left from e ∙ ap (λ b. cond b (pairs_left from e) []) is

  pub left_overlaps_not : (from : ℕ) (e : BoundedRange) → overlaps low high e.shared.range ≡ false
      → overlapping_ranges low high (pairs_left from e) ≡ []
  left_overlaps_not from e is = overlapping_left from e ∙ ap (λ b. cond b (pairs_left from e) []) is

  pub next_overlap : (from : ℕ) (e : BoundedRange) (f : UnitRange × ℕ) → overlaps low high e.shared.range ≡ true
      → IsNextPair from e f → IsNextOverlap low high from e f
  next_overlap from e f is next =
      (next.0, left_overlaps from e is ∙ next.1 ∙ ap (λ l. f.0 ∷ l) (sym (left_overlaps f.1 e is)))

-- the pairs of ranges from an index on
abbrev pub all_left : ℕ → List BoundedRange → List UnitRange
all_left from [] = []
all_left from (e ∷ es) = pairs_left from e ++ all_left from es

drop-append : {X : Type 0} (n : ℕ) (xs ys : List X) → drop n (xs ++ ys) ≡ drop n xs ++ drop (n - length xs) ys
drop-append zero xs ys = let none : 0 ≡ 0 - length xs = omega arith in ap (λ n. xs ++ drop n ys) none
drop-append (suc n) [] ys =
    let same : suc n ≡ suc n - 0 = omega arith in ap (λ m. drop m ys) same
drop-append (suc n) (x ∷ xs) ys =
    let same : n - length xs ≡ suc n - suc (length xs) = omega arith in
    drop-append n xs ys ∙ ap (λ m. drop n xs ++ drop m ys) same

all_left_is : (from before : ℕ) (es : List BoundedRange) → CountsFrom before es
    → drop (from - before) (ranges_in es) ≡ all_left from es
all_left_is from before [] is = drop_all (from - before) [] (omega arith)
all_left_is from before (e ∷ es) is =
    let first : from - before ≡ from - index_of e = omega arith in
    let many = length-units e.shared.range e.shared.first (more_units e.shared) in
    let rest : from - before - length (pairs_in e.shared) ≡ from - e.after = omega arith in
    drop-append (from - before) (pairs_in e.shared) (ranges_in es)
    ∙ ap (λ n. drop n (pairs_in e.shared) ++ drop (from - before - length (pairs_in e.shared)) (ranges_in es)) first
    ∙ ap (λ n. pairs_left from e ++ drop n (ranges_in es)) rest
    ∙ ap (λ l. pairs_left from e ++ l) (all_left_is from e.after es is.1)

pub left_is : (from : ℕ) (es : List BoundedRange) → CountsFrom 0 es → drop from (ranges_in es) ≡ all_left from es
left_is from es is =
    let same : from ≡ from - 0 = omega arith in ap (λ n. drop n (ranges_in es)) same ∙ all_left_is from 0 es is

-- from an index at or below the first on, they are all
all_left-whole : (from before : ℕ) (es : List BoundedRange) → from ≤ before → CountsFrom before es
    → all_left from es ≡ ranges_in es
all_left-whole from before es le is =
    let none : from - before ≡ 0 = omega arith in
    sym (all_left_is from before es is) ∙ ap (λ n. drop n (ranges_in es)) none

-- behind a pair of the range at a place, those of that range and of all after it are left
pub left_behind : (place from next before : ℕ) (es : List BoundedRange) (d : BoundedRange) → place < length es
    → CountsFrom before es → IsBehind from (get_or es place d) next
    → all_left next es ≡ pairs_left next (get_or es place d) ++ all_left from (drop (place + 1) es)
left_behind place from next before [] d below is behind = absurd (omega arith)
left_behind zero from next before (e ∷ es) d below is behind =
    ap (λ l. pairs_left next e ++ l)
    (all_left-whole next e.after es behind.2 is.1 ∙ sym (all_left-whole from e.after es (omega arith) is.1))
left_behind (suc place) from next before (e ∷ es) d below is behind =
    let later = counted_at place e.after es d (omega arith) is.1 in
    let more : suc place + 1 ≡ suc (place + 1) = omega arith in
    ap (λ l. l ++ all_left next es) (none_left next e (omega arith) (omega arith))
    ∙ left_behind place from next e.after es d (omega arith) is.1 behind
    ∙ ap (λ n. pairs_left next (get_or es place d) ++ all_left from (drop n (e ∷ es))) (sym more)

left_at : (place from : ℕ) (es : List BoundedRange) (d : BoundedRange) → place < length es
    → all_left from (drop place es) ≡ pairs_left from (get_or es place d) ++ all_left from (drop (place + 1) es)
left_at place from [] d below = absurd (omega arith)
left_at zero from (e ∷ es) d below = refl
left_at (suc place) from (e ∷ es) d below =
    let more : suc place + 1 ≡ suc (place + 1) = omega arith in
    left_at place from es d (omega arith)
    ∙ ap (λ n. pairs_left from (get_or es place d) ++ all_left from (drop n (e ∷ es))) (sym more)

module _ (low high : ℕ) where
  -- what overlaps
  abbrev overlapping : List UnitRange → List UnitRange
  overlapping rs = overlapping_ranges low high rs

  overlapping-append : (xs ys : List UnitRange) → overlapping (xs ++ ys) ≡ overlapping xs ++ overlapping ys
  overlapping-append xs ys = filter-append (λ x. overlaps low high x.range) xs ys

  overlapping_at : (place from : ℕ) (es : List BoundedRange) (d : BoundedRange) → place < length es
      → overlapping (all_left from (drop place es))
      ≡ overlapping (pairs_left from (get_or es place d)) ++ overlapping (all_left from (drop (place + 1) es))
  overlapping_at place from es d below =
      ap overlapping (left_at place from es d below)
      ∙ overlapping-append (pairs_left from (get_or es place d)) (all_left from (drop (place + 1) es))

  -- a pair of it was
  pub overlapping_found : (place from : ℕ) (es : List BoundedRange) (d : BoundedRange) (f : UnitRange × ℕ)
      → place < length es → CountsFrom 0 es → IsNextOverlap low high from (get_or es place d) f
      → overlapping (all_left from (drop place es)) ≡ f.0 ∷ overlapping (drop f.1 (ranges_in es))
  overlapping_found place from es d f below is next =
      let e = get_or es place d in
      let rest = all_left from (drop (place + 1) es) in
      overlapping_at place from es d below
      ∙ ap (λ l. l ++ overlapping rest) next.1
      ∙ ap (λ l. f.0 ∷ l) (sym (overlapping-append (pairs_left f.1 e) rest))
      ∙ ap (λ l. f.0 ∷ overlapping l) (sym (left_behind place from f.1 0 es d below is next.0))
      ∙ ap (λ l. f.0 ∷ overlapping l) (sym (left_is f.1 es is))

  none_overlap : (from : ℕ) (es : List BoundedRange) → high ≤ least_begin es → overlapping (all_left from es) ≡ []
  none_overlap from [] h = refl
  none_overlap from (e ∷ es) h =
      overlapping-append (pairs_left from e) (all_left from es)
      ∙ ap (λ l. l ++ overlapping (all_left from es)) (left_overlaps_not low high from e
      (above_overlaps_not low high e.shared.range.begin e.shared.range.end (omega arith)))
      ∙ none_overlap from es (omega arith)

  -- what is skipped has none that overlaps
  skipped_not : (from : ℕ) (e : BoundedRange) → IsCounted e → is_skipped from low e ≡ true
      → overlapping (pairs_left from e) ≡ []
  skipped_not from e counted skipped =
      elim (ends_by low e) as (λ b. ends_by low e ≡ b → b || nat_le e.after from ≡ true
      → overlapping (pairs_left from e) ≡ []) [
        | true ↦ λ ended _. left_overlaps_not low high from e
            (ended_overlaps_not low high e.shared.range.begin e.shared.range.end ended)
        | false ↦ λ _ over. ap overlapping (none_left from e counted (le_above from e.after over))
      ] refl skipped

  pub overlapping_start : (from before : ℕ) (es : List BoundedRange) → CountsFrom before es
      → overlapping (all_left from (drop (prefix_len (is_skipped from low) es) es)) ≡ overlapping (all_left from es)
  overlapping_start from before [] is = refl
  overlapping_start from before (e ∷ es) is =
      elim (is_skipped from low e) as (λ b. is_skipped from low e ≡ b
      → overlapping (all_left from (drop (cond b (1 + prefix_len (is_skipped from low) es) 0) (e ∷ es)))
      ≡ overlapping (all_left from (e ∷ es))) [
        | true ↦ λ skipped.
            ap (λ n. overlapping (all_left from (drop n (e ∷ es)))) (one_before (prefix_len (is_skipped from low) es))
            ∙ overlapping_start from e.after es is.1
            ∙ sym (overlapping-append (pairs_left from e) (all_left from es)
            ∙ ap (λ l. l ++ overlapping (all_left from es)) (skipped_not from e (omega arith) skipped))
        | false ↦ λ _. refl
      ] refl

-- the search stops where all that are left begin above the last address
pub stop_overlapping : (low last place from : ℕ) (es : List BoundedRange) (d : BoundedRange) → place < length es
    → IsBounded es → last < (get_or es place d).least_begin
    → overlapping_ranges low (last + 1) (all_left from (drop place es)) ≡ []
stop_overlapping low last place from es d below bounded over =
    none_overlap low (last + 1) from (drop place es) (omega (arith, bounded_at place es d below bounded))

-- ---- order

-- what is in order, seen through a function, is in order
ascends_through : {X Y : Type 0} (f : X → Y) (n : Y → ℕ) (xs : List X) → IsNonDecreasingBy n (map f xs)
    → IsNonDecreasingBy (λ x. n (f x)) xs
ascends_through f n xs up i j d le below =
    let many = length-map xs f in
    omega (
      arith,
      ap n (get_or-map f xs i d (f d) (omega arith)),
      ap n (get_or-map f xs j d (f d) below),
      up i j (f d) le (omega arith),
    )

-- the order of ranges by their ends is that of the bounded ones
pub bounded_in_order : (es : List BoundedRange) (ss : List SharedRange) → shared_in es ≡ ss
    → IsNonDecreasingBy shared_end ss → IsNonDecreasingBy end_of es
bounded_in_order es ss same up =
    ascends_through (λ (e : BoundedRange). e.shared) shared_end es (subst (IsNonDecreasingBy shared_end) (sym same) up)

-- ---- the bisection

-- a partition point is the number of those before it
pub count_from_point : {X : Type 0} (p : X → Bool) (xs : List X) (n : ℕ) → n ≤ length xs
    → IsPartitionPoint (λ x. p x ≡ true) (λ x. p x ≡ false) xs n → n ≡ prefix_len p xs
count_from_point p [] n le point = omega arith
count_from_point p (x ∷ xs) n le point =
    sym (prefix_len_is p (x ∷ xs) n x le (λ k below. point.0 k x (omega arith) below)
    (λ below. point.1 n x (omega arith) below))

-- the counts rise
counts_rise : (before : ℕ) (es : List BoundedRange) → CountsFrom before es → IsNonDecreasingBy (λ e. e.after) es
counts_rise before [] is i j d le below = absurd (omega arith)
counts_rise before (e ∷ es) is zero zero d le below = omega arith
counts_rise before (e ∷ es) is zero (suc j) d le below =
    let later = counted_at j e.after es d (omega arith) is.1 in omega arith
counts_rise before (e ∷ es) is (suc i) zero d le below = absurd (omega arith)
counts_rise before (e ∷ es) is (suc i) (suc j) d le below =
    counts_rise e.after es is.1 i j d (omega arith) (omega arith)

or_kept : (p q r s : Bool) → (p ≡ true → r ≡ true) → (q ≡ true → s ≡ true) → p || q ≡ true → r || s ≡ true
or_kept true q r s first second h = ap (λ b. b || s) (first refl)
or_kept false q r s first second h = ap (λ b. r || b) (second h) ∙ elim r as (λ b. b || true ≡ true) [
  | true ↦ refl
  | false ↦ refl
]

-- what is skipped comes before what isn't
pub skipped_first : (from low : ℕ) (es : List BoundedRange) → IsInOrder es → IsPartitionedBy (is_skipped from low) es
skipped_first from low es is i j d le below h =
    or_kept (ends_by low (get_or es j d)) (nat_le (get_or es j d).after from) (ends_by low (get_or es i d))
    (nat_le (get_or es i d).after from) (IsPartitionedBy-leb end_of es low is.0 i j d le below)
    (IsPartitionedBy-leb (λ (e : BoundedRange). e.after) es from (counts_rise 0 es is.2) i j d le below) h

-- the first that isn't skipped, or the place after the last, right after one that is
pub first_left : (from low n : ℕ) (es : List BoundedRange) (d : BoundedRange) → IsInOrder es → 0 < n → n ≤ length es
    → (n < length es → is_skipped from low (get_or es n d) ≡ false) → is_skipped from low (get_or es (n - 1) d) ≡ true
    → n ≡ prefix_len (is_skipped from low) es
first_left from low n es d order some within here before =
    sym (prefix_len_is (is_skipped from low) es n d within
    (λ k below. skipped_first from low es order k (n - 1) d (omega arith) (omega arith) before) here)
