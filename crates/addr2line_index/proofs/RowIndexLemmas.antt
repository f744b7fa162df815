-- A search by the greatest address up to each row finds the row of an address.
use Rattle.std.proofs.Common.{◌≡◌, ℕ, zero, suc, ◌+◌, ◌-◌, ◌<◌, ◌≤◌, ◌==◌, max, true, false, cond, nat_le, List, [], ◌∷◌, length, get_or, take, slice_get, Option, Some, None, Result, Ok, Err, refl, ap, sym, subst, ◌∙◌, arith}
use Rattle.std.specs.Prelude.{OnOk, OnErr}
use Rattle.addr2line_spec.specs.Error.{Error}
use Rattle.std.specs.List.{last_or, prefix_len}
use Rattle.std.specs.List.Sorted.{IsNonDecreasingBy, IsPartitionedBy}
use Rattle.std.proofs.lemmas.Bool.Decides.{nat_tests}
use Rattle.std.proofs.lemmas.List.Sorted.{IsPartitionedBy-leb}
use Rattle.addr2line_spec.specs.Lines.{LineRow, rows_to, row_of}
use Rattle.addr2line_index.specs.RowIndexes.{greatest_after}
use Rattle.addr2line_index.specs.PartialLines.{put_row}
use Rattle.addr2line_index.specs.NarrowRows.{AscendFrom, last_address}

-- ---- the greatest addresses are in order

-- none after is below the greatest so far
none_below : (top : ℕ) (rs : List LineRow) (j d : ℕ) → j < length (greatest_after top rs)
    → top ≤ get_or (greatest_after top rs) j d
none_below top [] j d below = absurd (omega arith)
none_below top (r ∷ rs) zero d below = omega arith
none_below top (r ∷ rs) (suc j) d below =
    let rest = none_below (max top r.address) rs j d (omega arith) in omega arith

greatest-ascends : (top : ℕ) (rs : List LineRow) → IsNonDecreasingBy (λ n. n) (greatest_after top rs)
greatest-ascends top [] i j d le below = absurd (omega arith)
greatest-ascends top (r ∷ rs) zero zero d le below = omega arith
greatest-ascends top (r ∷ rs) zero (suc j) d le below = none_below (max top r.address) rs j d (omega arith)
greatest-ascends top (r ∷ rs) (suc i) zero d le below = absurd (omega arith)
greatest-ascends top (r ∷ rs) (suc i) (suc j) d le below =
    greatest-ascends (max top r.address) rs i j d (omega arith) (omega arith)

pub greatest_parted : (a : ℕ) (all : List ℕ) (rs : List LineRow) → all ≡ greatest_after 0 rs
    → IsPartitionedBy (λ n. nat_le n a) all
greatest_parted a all rs is =
    rw is (IsPartitionedBy-leb (λ n. n) (greatest_after 0 rs) a (greatest-ascends 0 rs))

-- ---- as many are not above an address

max_within : (top address a : ℕ) → top ≤ a → nat_le (max top address) a ≡ nat_le address a
max_within top address a h = grind (arith, nat_tests)

within_max : (top address a : ℕ) → top ≤ a → nat_le address a ≡ true → max top address ≤ a
within_max top address a h k = grind (arith, nat_tests)

pub greatest_count : (a top : ℕ) (rs : List LineRow) → top ≤ a
    → prefix_len (λ n. nat_le n a) (greatest_after top rs) ≡ rows_to a rs
greatest_count a top [] h = refl
greatest_count a top (r ∷ rs) h =
    ap (λ b. cond b (1 + prefix_len (λ n. nat_le n a) (greatest_after (max top r.address) rs)) 0)
    (max_within top r.address a h)
    ∙ elim (nat_le r.address a) as (λ b. nat_le r.address a ≡ b
    → cond b (1 + prefix_len (λ n. nat_le n a) (greatest_after (max top r.address) rs)) 0
    ≡ cond b (1 + rows_to a rs) 0) [
      | true ↦ λ below. ap (λ n. 1 + n) (greatest_count a (max top r.address) rs (within_max top r.address a h below))
      | false ↦ λ _. refl
    ] refl

-- as many as there are greatest addresses
pub greatest_length : (top : ℕ) (rs : List LineRow) → length (greatest_after top rs) ≡ length rs
greatest_length top [] = refl
greatest_length top (r ∷ rs) = ap suc (greatest_length (max top r.address) rs)

-- ---- the row before the first above an address

last_of_first : {X : Type 0} (o : Option X) (xs : List X) (n : ℕ) → n < length xs
    → last_or o (take (suc n) xs) ≡ slice_get xs n
last_of_first o [] n below = absurd (omega arith)
last_of_first o (x ∷ xs) zero below = refl
last_of_first o (x ∷ xs) (suc n) below = last_of_first (Some x) xs n (omega arith)

pub rows_to-within : (a : ℕ) (rs : List LineRow) → rows_to a rs ≤ length rs
rows_to-within a [] = omega arith
rows_to-within a (r ∷ rs) =
    let rest = rows_to-within a rs in
    elim (nat_le r.address a) as (λ b. cond b (1 + rows_to a rs) 0 ≤ length (r ∷ rs)) [
      | true ↦ omega arith
      | false ↦ omega arith
    ]

-- the last of the first rows
pub row_of-some : (a n : ℕ) (rs : List LineRow) → rows_to a rs ≡ suc n → row_of rs a ≡ slice_get rs n
row_of-some a n rs some =
    let within = rows_to-within a rs in
    ap (λ k. last_or None (take k rs)) some ∙ last_of_first None rs n (omega arith)

-- ---- rows that don't go back

from_first : (a : ℕ) (rs : List LineRow) (j : ℕ) (d : LineRow) → AscendFrom a rs → j < length rs
    → a ≤ (get_or rs j d).address
from_first a [] j d up below = absurd (omega arith)
from_first a (r ∷ rs) zero d up below = up.0
from_first a (r ∷ rs) (suc j) d up below =
    let rest = from_first r.address rs j d up.1 (omega arith) in
    let first : a ≤ r.address = up.0 in
    omega arith

rows_ascend : (a : ℕ) (rs : List LineRow) → AscendFrom a rs → IsNonDecreasingBy (λ (r : LineRow). r.address) rs
rows_ascend a [] up i j d le below = absurd (omega arith)
rows_ascend a (r ∷ rs) up zero zero d le below = omega arith
rows_ascend a (r ∷ rs) up zero (suc j) d le below = from_first r.address rs j d up.1 (omega arith)
rows_ascend a (r ∷ rs) up (suc i) zero d le below = absurd (omega arith)
rows_ascend a (r ∷ rs) up (suc i) (suc j) d le below =
    rows_ascend r.address rs up.1 i j d (omega arith) (omega arith)

pub ascend_parted : (a : ℕ) (rs : List LineRow) → AscendFrom 0 rs
    → IsPartitionedBy (λ (r : LineRow). nat_le r.address a) rs
ascend_parted a rs up = IsPartitionedBy-leb (λ (r : LineRow). r.address) rs a (rows_ascend 0 rs up)

-- one row more, not below the last
pub ascend-put : (a : ℕ) (rs : List LineRow) (r : LineRow) → AscendFrom a rs → last_address a rs ≤ r.address
    → AscendFrom a (put_row r rs)
ascend-put a [] r up le = (le, tt)
ascend-put a (x ∷ []) r up le =
    let first : a ≤ x.address = up.0 in
    let second : x.address ≤ r.address = le in
    elim (r.address == x.address) as (λ b. AscendFrom a (cond b (r ∷ []) (x ∷ r ∷ []))) [
      | true ↦ (omega arith, tt)
      | false ↦ (first, (second, tt))
    ]
ascend-put a (x ∷ y ∷ ys) r up le = (up.0, ascend-put x.address (y ∷ ys) r up.1 le)

last_at : (a n : ℕ) (rs : List LineRow) (r : LineRow) → length rs ≡ suc n → slice_get rs n ≡ Some r
    → last_address a rs ≡ r.address
last_at a n [] r many is = absurd (omega arith)
last_at a zero (x ∷ []) r many is = let same : x ≡ r = cc in ap (λ (z : LineRow). z.address) same
last_at a (suc n) (x ∷ []) r many is = absurd (omega arith)
last_at a zero (x ∷ y ∷ ys) r many is = absurd (omega arith)
last_at a (suc n) (x ∷ y ∷ ys) r many is = last_at x.address n (y ∷ ys) r (omega arith) is

pub last_address-at : (a : ℕ) (rs : List LineRow) (r : LineRow) → slice_get rs (length rs - 1) ≡ Some r
    → last_address a rs ≡ r.address
last_address-at a [] r is = absurd (cc)
last_address-at a (x ∷ xs) r is =
    let last : length xs ≡ length (x ∷ xs) - 1 = omega arith in
    last_at a (length xs) (x ∷ xs) r refl (ap (slice_get (x ∷ xs)) last ∙ is)

-- whether it was put or not
pub ascend_after : (result : Result (Unit {0}) Error) (old new : List LineRow) (r : LineRow) → AscendFrom 0 old
    → last_address 0 old ≤ r.address → OnOk result (new ≡ put_row r old) → OnErr result (new ≡ old) → AscendFrom 0 new
ascend_after (Ok x) old new r up le ok err = subst (AscendFrom 0) (sym ok) (ascend-put 0 old r up le)
ascend_after (Err e) old new r up le ok err = subst (AscendFrom 0) (sym err) up
