-- The numbers of bytes by their places: what std makes of arrays, and zeros around the bytes.
use Rattle.std.proofs.Common.{◌≡◌, ℕ, zero, suc, ◌-◌, ◌≤◌, List, [], ◌∷◌, ◌++◌, length, drop, replicate, refl, ap, ◌∙◌, arith}
use Rattle.std.proofs.lemmas.List.{append-nil, length-append, drop-replicate, drop_all, length-replicate, take-replicate}
use Rattle.std.specs.Int.{w64, from_be_bytes, from_le_bytes}
use borrow.Rule.Slice.PartMut.{put_mid}
use Rattle.gimli_core_base.specs.Fixed.{little, big}

-- what holds of any eight bytes
of_eight : (P : List ℕ → Type 0)
    → ((a b c d e f g i : ℕ) → P (a ∷ b ∷ c ∷ d ∷ e ∷ f ∷ g ∷ i ∷ [])) → (bs : List ℕ) → length bs ≡ 8 → P bs
of_eight P all [] h = absurd (omega arith)
of_eight P all (a ∷ []) h = absurd (omega arith)
of_eight P all (a ∷ b ∷ []) h = absurd (omega arith)
of_eight P all (a ∷ b ∷ c ∷ []) h = absurd (omega arith)
of_eight P all (a ∷ b ∷ c ∷ d ∷ []) h = absurd (omega arith)
of_eight P all (a ∷ b ∷ c ∷ d ∷ e ∷ []) h = absurd (omega arith)
of_eight P all (a ∷ b ∷ c ∷ d ∷ e ∷ f ∷ []) h = absurd (omega arith)
of_eight P all (a ∷ b ∷ c ∷ d ∷ e ∷ f ∷ g ∷ []) h = absurd (omega arith)
of_eight P all (a ∷ b ∷ c ∷ d ∷ e ∷ f ∷ g ∷ i ∷ []) h = all a b c d e f g i
of_eight P all (a ∷ b ∷ c ∷ d ∷ e ∷ f ∷ g ∷ i ∷ j ∷ bs) h = absurd (omega arith)

big-eight : (bs : List ℕ) → length bs ≡ 8 → from_be_bytes w64 bs ≡ big bs
big-eight bs h = of_eight (λ xs. from_be_bytes w64 xs ≡ big xs) (λ a b c d e f g i. omega arith) bs h

little-eight : (bs : List ℕ) → length bs ≡ 8 → from_le_bytes w64 bs ≡ little bs
little-eight bs h = of_eight (λ xs. from_le_bytes w64 xs ≡ little xs) (λ a b c d e f g i. omega arith) bs h

-- zeros where they are worth most change nothing
big-zeros : (m : ℕ) (bs : List ℕ) → big (replicate m 0 ++ bs) ≡ big bs
big-zeros zero bs = refl
big-zeros (suc m) bs = let rest = big-zeros m bs in omega (arith, rest)

zeros : (m : ℕ) → little (replicate m 0) ≡ 0
zeros zero = refl
zeros (suc m) = let rest = zeros m in omega (arith, rest)

little-zeros : (bs : List ℕ) (m : ℕ) → little (bs ++ replicate m 0) ≡ little bs
little-zeros [] m = zeros m
little-zeros (b ∷ bs) m = let rest = little-zeros bs m in omega (arith, rest)

-- bytes at the end of eight, and at their start
pub big-at_end : (bs : List ℕ) → length bs ≤ 8
    → from_be_bytes w64 (put_mid (8 - length bs) (8 - (8 - length bs)) (replicate 8 0) bs) ≡ big bs
big-at_end bs h =
    let n = length bs in
    let shape : put_mid (8 - n) (8 - (8 - n)) (replicate 8 0) bs ≡ replicate (8 - n) 0 ++ bs =
    rw (
      take-replicate {X = ℕ} (8 - n) 8 0 (omega arith),
      drop-replicate {X = ℕ} (8 - n) 8 0,
      drop_all {X = ℕ}
          (8 - (8 - n)) (replicate (8 - (8 - n)) 0) (omega (arith, length-replicate {A = ℕ} (8 - (8 - n)) 0)),
      append-nil,
    )
    refl in
    let len : length (replicate (8 - n) 0 ++ bs) ≡ 8 = length-append (replicate (8 - n) 0) bs
    ∙ omega (arith, length-replicate {A = ℕ} (8 - n) 0) in
    ap (from_be_bytes w64) shape ∙ big-eight (replicate (8 - n) 0 ++ bs) len ∙ big-zeros (8 - n) bs

pub little-at_start : (bs : List ℕ) → length bs ≤ 8 → from_le_bytes w64 (bs ++ drop (length bs) (replicate 8 0))
    ≡ little bs
little-at_start bs h =
    let n = length bs in
    let shape : bs ++ drop n (replicate 8 0) ≡ bs ++ replicate (8 - n) 0 = rw (drop-replicate {X = ℕ} n 8 0) refl in
    let len : length (bs ++ replicate (8 - n) 0) ≡ 8 = length-append bs (replicate (8 - n) 0)
    ∙ omega (arith, length-replicate {A = ℕ} (8 - n) 0) in
    ap (from_le_bytes w64) shape ∙ little-eight (bs ++ replicate (8 - n) 0) len ∙ little-zeros bs (8 - n)
