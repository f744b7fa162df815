-- How far a search in a list that is partitioned by a test has come, and how many looks are left.
use Rattle.std.proofs.Common.{◌≡◌, ℕ, zero, suc, ◌+◌, ◌/◌, ◌^◌, ◌<◌, ◌≤◌, Bool, true, false, cond, List, [], ◌∷◌, length, get_or, slice_get, take, filter, Option, Some, None, refl, ap, ◌∙◌, subst, inl, inr, arith}
use Rattle.std.specs.Int.Digits.{digits_of}
use Rattle.std.specs.List.{prefix_len, last_or}
use Rattle.std.specs.List.Sorted.{IsPartitionedBy}
use Rattle.std.proofs.lemmas.Bool.{cases_lt}
use Rattle.std.proofs.lemmas.Int.Digits.{length-digits_of_step, length-digits_of-le, number_digits_of, number_lt, all_below_base_digits_of}
use Rattle.std.proofs.lemmas.List.Sums.{prefix_len-le-length, prefix_len_passes, prefix_len_stops}
use Rattle.std.proofs.lemmas.Option.{get_or_from_slice_get, slice_get_within}
use Rattle.addr2line_search.specs.Searches.{last_passing, digit_count}

-- ---- places

module _ {X : Type 0} (p : X → Bool) (xs : List X) (m : ℕ) (x : X) where
  -- an entry that passes is before the first that fails
  pub passes_before : IsPartitionedBy p xs → slice_get xs m ≡ Some x → p x ≡ true → m < prefix_len p xs
  passes_before parted at passes =
      let within : m < length xs = slice_get_within xs m x at in
      let here : p (get_or xs m x) ≡ true = ap p (get_or_from_slice_get xs m x x at) ∙ passes in
      elim (cases_lt m (prefix_len p xs)) [
        | inl below ↦ below
        | inr above ↦
            let stops = prefix_len_stops p xs x (omega arith) in
            let goes = parted (prefix_len p xs) m x above within here in
            absurd (cc)
      ]

  -- one that fails is not
  pub fails_after : slice_get xs m ≡ Some x → p x ≡ false → prefix_len p xs ≤ m
  fails_after at fails =
      let here : p (get_or xs m x) ≡ false = ap p (get_or_from_slice_get xs m x x at) ∙ fails in
      elim (cases_lt m (prefix_len p xs)) [
        | inl below ↦ let goes = prefix_len_passes p xs m x below in absurd (cc)
        | inr above ↦ above
      ]

-- ---- looks

-- a smaller number has no more digits
digit_count-le : (m n : ℕ) → m ≤ n → digit_count m ≤ digit_count n
digit_count-le m n le =
    let below : n < 2 ^ digit_count n =
    subst (λ k. k < 2 ^ digit_count n) (number_digits_of 2 n (omega arith))
    (number_lt 2 (digits_of 2 n) (all_below_base_digits_of 2 n (omega arith))) in
    length-digits_of-le 2 (digit_count n) m (omega arith) (omega arith)

-- one look leaves at most half
pub digit_count-half : (k n : ℕ) → 0 < n → k ≤ n / 2 → digit_count k + 1 ≤ digit_count n
digit_count-half k n some half =
    let step = length-digits_of_step 2 n (omega arith) some in
    let less = digit_count-le k (n / 2) half in
    omega arith

-- ---- what passes

-- nothing passes where the first doesn't
none_passes : {X : Type 0} (p : X → Bool) (x : X) (xs : List X) → IsPartitionedBy p (x ∷ xs) → p x ≡ false
    → (ys : List X)
    → ((j : ℕ) (d : X) → j < length ys
    → (k : ℕ) × ((k < length (x ∷ xs)) × (get_or (x ∷ xs) k d ≡ get_or ys j d)))
    → filter p ys ≡ []
none_passes p x xs parted fails [] within = refl
none_passes p x xs parted fails (y ∷ ys) within =
    elim (p y) as (λ b. p y ≡ b → cond b (y ∷ filter p ys) (filter p ys) ≡ []) [
      | true ↦ λ passes.
          let here = within 0 y (omega arith) in
          let first = parted 0 here.0 y (omega arith) here.1.0 (ap p here.1.1 ∙ passes) in
          absurd (cc)
      | false ↦ λ _. none_passes p x xs parted fails ys (λ j d below. within (suc j) d (omega arith))
    ] refl

parted_rest : {X : Type 0} (p : X → Bool) (x : X) (xs : List X) → IsPartitionedBy p (x ∷ xs) → IsPartitionedBy p xs
parted_rest p x xs parted i j d le below passes = parted (suc i) (suc j) d (omega arith) (omega arith) passes

-- those that pass are the first
pub passing_first : {X : Type 0} (p : X → Bool) (xs : List X) → IsPartitionedBy p xs
    → filter p xs ≡ take (prefix_len p xs) xs
passing_first p [] parted = refl
passing_first p (x ∷ xs) parted =
    elim (p x) as (λ b. p x ≡ b
    → cond b (x ∷ filter p xs) (filter p xs) ≡ take (cond b (1 + prefix_len p xs) 0) (x ∷ xs)) [
      | true ↦ λ _. ap (λ l. x ∷ l) (passing_first p xs (parted_rest p x xs parted))
          ∙ ap (λ n. take n (x ∷ xs)) one_before
      | false ↦ λ fails. none_passes p x xs parted fails xs (λ j d below. (suc j, (omega arith, refl)))
    ] refl
  where
    one_before : suc (prefix_len p xs) ≡ 1 + prefix_len p xs
    one_before = omega arith

-- the last of the first entries
last_of_first : {X : Type 0} (n : ℕ) (o : Option X) (x : X) (xs : List X) → n ≤ length xs
    → last_or (Some x) (take n xs) ≡ slice_get (x ∷ xs) n
last_of_first zero o x xs le = refl
last_of_first (suc n) o x [] le = absurd (omega arith)
last_of_first (suc n) o x (y ∷ ys) le = last_of_first n o y ys (omega arith)

pub last_passing-none : {X : Type 0} (p : X → Bool) (xs : List X) → IsPartitionedBy p xs → prefix_len p xs ≡ 0
    → last_passing p xs ≡ None
last_passing-none p xs parted none =
    ap (last_or None) (passing_first p xs parted ∙ ap (λ n. take n xs) none)

pub last_passing-some : {X : Type 0} (p : X → Bool) (xs : List X) (n : ℕ) → IsPartitionedBy p xs
    → prefix_len p xs ≡ n + 1
    → last_passing p xs ≡ slice_get xs n
last_passing-some p [] n parted some = absurd (omega arith)
last_passing-some p (x ∷ xs) n parted some =
    let bound = prefix_len-le-length p (x ∷ xs) in
    let whole : prefix_len p (x ∷ xs) ≡ suc n = omega arith in
    ap (last_or None) (passing_first p (x ∷ xs) parted ∙ ap (λ k. take k (x ∷ xs)) whole)
    ∙ last_of_first n None x xs (omega arith)
