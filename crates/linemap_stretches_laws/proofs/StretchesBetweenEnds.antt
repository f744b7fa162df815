-- The stretches of one sequence between two ends: those of all its stretches that begin below the high end, and end
-- above the low one.
use Rattle.std.proofs.Common.{◌≡◌, ℕ, suc, ◌+◌, ◌-◌, ◌<◌, ◌≤◌, Bool, true, false, cond, ◌&&◌, nat_lt, nat_le, List, [], ◌∷◌, filter, drop, refl, sym, ap, ◌∙◌, inl, inr, arith}
use Rattle.std.specs.List.{take_while}
use Rattle.std.proofs.lemmas.Bool.{cases_lt, lt-ltb, le-ltb, le-leb, lt-leb, ltb-false, and_left, and_right, and_from}
use Rattle.std.proofs.lemmas.List.Sums.{take_while-cons}
use Rattle.linemap_places_laws.specs.Lines.{LineRow, Sequence, Stretch, rows_to, next_address, row_location, stretches_of, sequence_between, reaches}
use Rattle.linemap_stretches_laws.proofs.AlikeStretches.{Each, each_implies, none_pass, all_pass, Climbs, from_lower}

-- the stretch begins below the high end, and ends above the low one
abbrev pub is_between : ℕ → ℕ → Stretch → Bool
is_between low high t = nat_lt t.address high && nat_lt low (t.address + t.length)

-- each row is below where it ends
abbrev pub Rises : ℕ → List LineRow → Type 0
Rises end [] = Unit {0}
Rises end (r ∷ rs) = (r.address < next_address rs end) × Rises end rs

-- a stretch that isn't empty, between two addresses
abbrev pub IsWithin : ℕ → ℕ → Stretch → Type 0
IsWithin low high t = (low ≤ t.address) × (0 < t.length) × (t.address + t.length ≤ high)

next_within : (end : ℕ) (rows : List LineRow) → Rises end rows → next_address rows end ≤ end
next_within end [] rises = omega arith
next_within end (r ∷ rs) rises = let rest = next_within end rs rises.1 in let here = rises.0 in omega arith

pub all_within : (files : List (List ℕ)) (low end : ℕ) (rows : List LineRow) → low ≤ next_address rows end
    → Rises end rows → Each (IsWithin low end) (stretches_of files end rows)
all_within files low end [] le rises = tt
all_within files low end (r ∷ rs) le rises =
    let here = rises.0 in
    let rest = next_within end rs rises.1 in
    ((le, omega arith, omega arith), all_within files low end rs (omega arith) rises.1)

pub all_climb : (files : List (List ℕ)) (low end : ℕ) (rows : List LineRow) → low ≤ next_address rows end
    → Rises end rows → Climbs low (stretches_of files end rows)
all_climb files low end [] le rises = tt
all_climb files low end (r ∷ rs) le rises =
    let here = rises.0 in (le, all_climb files r.address end rs (omega arith) rises.1)

-- ---- from the row of the low end on

abbrev ends_above : ℕ → Stretch → Bool
ends_above low t = nat_lt low (t.address + t.length)

all_above : (files : List (List ℕ)) (low end : ℕ) (rows : List LineRow) → low < next_address rows end → Rises end rows
    → filter (ends_above low) (stretches_of files end rows) ≡ stretches_of files end rows
all_above files low end rows lt rises =
    all_pass (ends_above low) (stretches_of files end rows)
    (each_implies (IsWithin (low + 1) end) (λ t. ends_above low t ≡ true) (stretches_of files end rows)
    (λ t within. let at = within.0 in lt-ltb low (t.address + t.length) (omega arith))
    (all_within files (low + 1) end rows (omega arith) rises))

from_low : (files : List (List ℕ)) (low end : ℕ) (rows : List LineRow) → low < end → Rises end rows
    → drop (rows_to low rows - 1) (stretches_of files end rows) ≡ filter (ends_above low) (stretches_of files end rows)
from_low files low end [] lt rises = refl
from_low files low end (r ∷ []) lt rises =
    let here = rises.0 in
    let count : cond (nat_le r.address low) (1 + 0) 0 - 1 ≡ 0 = by_case (nat_le r.address low) in
    ap (λ n. drop n (stretches_of files end (r ∷ []))) count
    ∙ sym (all_pass (ends_above low) (stretches_of files end (r ∷ []))
    (lt-ltb low (r.address + (end - r.address)) (omega arith), tt))
  where
    by_case : (b : Bool) → cond b (1 + 0) 0 - 1 ≡ 0
    by_case true = refl
    by_case false = refl
from_low files low end (r ∷ q ∷ rs) lt rises =
    let here = rises.0 in
    elim (cases_lt low q.address) [
      | inl above ↦ all_kept (nat_le r.address low) (lt-leb q.address low above)
          ∙ sym (ap (λ b. cond b (first ∷ filter (ends_above low) others) (filter (ends_above low) others))
          (lt-ltb low (r.address + (q.address - r.address)) (omega arith))
          ∙ ap (λ l. first ∷ l) (all_above files low end (q ∷ rs) above rises.1))
      | inr below ↦
          let count : rows_to low (r ∷ q ∷ rs) - 1 ≡ (rows_to low (q ∷ rs) - 1) + 1 =
          ap (λ b. cond b (1 + rows_to low (q ∷ rs)) 0 - 1) (le-leb r.address low (omega arith))
          ∙ ap (λ b. (1 + cond b (1 + rows_to low rs) 0) - 1) (le-leb q.address low below)
          ∙ omega arith
          ∙ sym (ap (λ b. (cond b (1 + rows_to low rs) 0 - 1) + 1) (le-leb q.address low below)) in
          ap (λ n. drop n (first ∷ others)) count
          ∙ drop_more (rows_to low (q ∷ rs) - 1)
          ∙ from_low files low end (q ∷ rs) lt rises.1
          ∙ sym (ap (λ b. cond b (first ∷ filter (ends_above low) others) (filter (ends_above low) others))
          (le-ltb low (r.address + (q.address - r.address)) (omega arith)))
    ]
  where
    first : Stretch
    first = record { address = r.address; length = q.address - r.address; location = row_location files r }

    others : List Stretch
    others = stretches_of files end (q ∷ rs)

    all_kept : (b : Bool) → nat_le q.address low ≡ false
        → drop (cond b (1 + rows_to low (q ∷ rs)) 0 - 1) (first ∷ others) ≡ (first ∷ others)
    all_kept false e = refl
    all_kept true e = ap (λ c. drop ((1 + cond c (1 + rows_to low rs) 0) - 1) (first ∷ others)) e

    drop_more : (n : ℕ) → drop (n + 1) (first ∷ others) ≡ drop n others
    drop_more n = let next : n + 1 ≡ suc n = omega arith in ap (λ (k : ℕ). drop k (first ∷ others)) next

-- ---- while they begin below the high end

none_below : (high low : ℕ) (ts : List Stretch) → high ≤ low → Climbs low ts
    → filter (λ t. nat_lt t.address high) ts ≡ []
none_below high low [] le climbs = refl
none_below high low (t ∷ ts) le climbs =
    let above = climbs.0 in
    ap (λ b. cond b (t ∷ filter (λ t. nat_lt t.address high) ts) (filter (λ t. nat_lt t.address high) ts))
    (le-ltb t.address high (omega arith))
    ∙ none_below high t.address ts (omega arith) climbs.1

to_high : (high low : ℕ) (ts : List Stretch) → Climbs low ts
    → take_while (λ t. nat_lt t.address high) ts ≡ filter (λ t. nat_lt t.address high) ts
to_high high low [] climbs = refl
to_high high low (t ∷ ts) climbs =
    take_while-cons (λ (t : Stretch). nat_lt t.address high) t ts
    ∙ elim (nat_lt t.address high) as (λ b. nat_lt t.address high ≡ b
    → cond b (t ∷ take_while (λ t. nat_lt t.address high) ts) []
    ≡ cond b (t ∷ filter (λ t. nat_lt t.address high) ts) (filter (λ t. nat_lt t.address high) ts)) [
      | true ↦ λ _. ap (λ l. t ∷ l) (to_high high t.address ts climbs.1)
      | false ↦ λ e. sym (none_below high t.address ts (ltb-false t.address high e) climbs.1)
    ] refl

-- ---- filters

pub filter_climbs : (p : Stretch → Bool) (low : ℕ) (ts : List Stretch) → Climbs low ts → Climbs low (filter p ts)
filter_climbs p low [] climbs = tt
filter_climbs p low (t ∷ ts) climbs = elim (p t) as (λ b. Climbs low (cond b (t ∷ filter p ts) (filter p ts))) [
  | true ↦ (climbs.0, filter_climbs p t.address ts climbs.1)
  | false ↦ filter_climbs p low ts (from_lower low t.address ts climbs.0 climbs.1)
]

pub both_filters : {X : Type 0} (p q : X → Bool) (xs : List X) → filter p (filter q xs) ≡ filter (λ x. p x && q x) xs
both_filters p q [] = refl
both_filters {X = X} p q (x ∷ xs) = by_second (q x) (both_filters p q xs)
  where
    both : List X
    both = filter (λ x. p x && q x) xs

    with_first : (b : Bool) → filter p (filter q xs) ≡ both
        → cond b (x ∷ filter p (filter q xs)) (filter p (filter q xs)) ≡ cond (b && true) (x ∷ both) both
    with_first true rest = ap (λ l. x ∷ l) rest
    with_first false rest = rest

    by_test : (b : Bool) → filter p (filter q xs) ≡ both → filter p (filter q xs) ≡ cond (b && false) (x ∷ both) both
    by_test true rest = rest
    by_test false rest = rest

    by_second : (c : Bool) → filter p (filter q xs) ≡ both
        → filter p (cond c (x ∷ filter q xs) (filter q xs)) ≡ cond (p x && c) (x ∷ both) both
    by_second true rest = with_first (p x) rest
    by_second false rest = by_test (p x) rest

-- ---- a sequence

pub sequence_is : (files : List (List ℕ)) (low high : ℕ) (s : Sequence) → s.start ≡ next_address s.rows s.end
    → Rises s.end s.rows
    → cond (reaches low high s) (sequence_between files low high s) []
    ≡ filter (is_between low high) (stretches_of files s.end s.rows)
sequence_is files low high s starts rises = elim (cases_lt s.start high) [
  | inr over ↦
      ap (λ b. cond (b && nat_lt low s.end) (sequence_between files low high s) []) (le-ltb s.start high over)
      ∙ sym (none_pass (is_between low high) whole
      (each_implies (IsWithin s.start s.end) (λ t. is_between low high t ≡ false) whole
      (λ t within. let from = within.0 in
      and_left (nat_lt t.address high) (nat_lt low (t.address + t.length)) (le-ltb t.address high (omega arith)))
      all))
  | inl starts_below ↦ elim (cases_lt low s.end) [
    | inr past ↦
        ap (λ b. cond b (sequence_between files low high s) [])
        (and_right (nat_lt s.start high) (nat_lt low s.end) (le-ltb low s.end past))
        ∙ sym (none_pass (is_between low high) whole
        (each_implies (IsWithin s.start s.end) (λ t. is_between low high t ≡ false) whole
        (λ t within. let to = within.2 in
        and_right (nat_lt t.address high) (nat_lt low (t.address + t.length))
        (le-ltb low (t.address + t.length) (omega arith))) all))
    | inl ends_above_low ↦
        ap (λ b. cond b (sequence_between files low high s) [])
        (and_from (nat_lt s.start high) (nat_lt low s.end) (lt-ltb s.start high starts_below)
        (lt-ltb low s.end ends_above_low))
        ∙ ap (take_while (λ t. nat_lt t.address high)) (from_low files low s.end s.rows ends_above_low rises)
        ∙ to_high high 0 (filter (ends_above low) whole)
        (filter_climbs (ends_above low) 0 whole (all_climb files 0 s.end s.rows (omega arith) rises))
        ∙ both_filters (λ t. nat_lt t.address high) (ends_above low) whole
  ]
]
  where
    whole : List Stretch
    whole = stretches_of files s.end s.rows

    all : Each (IsWithin s.start s.end) whole
    all = all_within files s.start s.end s.rows (omega (arith, starts)) rises
