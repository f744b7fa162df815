-- Rows between two ends: parts of lists, one element on.
use Rattle.std.proofs.Common.{◌≡◌, ℕ, suc, zero, ◌+◌, ◌-◌, Bool, true, false, cond, nat_lt, ◌<◌, ◌≤◌, List, [], ◌∷◌, length, drop, slice_get, Some, refl, sym, ap, ◌∙◌, arith}
use Rattle.std.specs.Prelude.{◌==◌, ◌&&◌, ◌||◌}
use Rattle.std.specs.Cmp.{IsStrictWeakOrder}
use Rattle.std.specs.List.{take_while}
use Rattle.std.proofs.lemmas.Bool.Decides.{nat_tests}
use Rattle.std.proofs.lemmas.List.Sums.{take_while-cons}
use Rattle.addr2line_spec.specs.Lines.{LineRow, Sequence, Stretch, row_location, next_address, stretches_of, starts_after}
use Rattle.addr2line_index.specs.declared.stretches.RowStretch.{RowStretch}
use Rattle.addr2line_index.specs.Stretches.{stretch_of_row, stretches_below}

-- ---- rows

pub stretches_of-drop : (files : List (List ℕ)) (end k : ℕ) (rows : List LineRow)
    → stretches_of files end (drop k rows) ≡ drop k (stretches_of files end rows)
stretches_of-drop files end zero rows = refl
stretches_of-drop files end (suc k) [] = refl
stretches_of-drop files end (suc k) (r ∷ rs) = stretches_of-drop files end k rs

-- a row as a stretch
stretch_is : (files : List (List ℕ)) (end next : ℕ) (r : LineRow) (rest : List LineRow) (s : RowStretch) → s.row ≡ r
    → s.address ≡ r.address → s.length ≡ next - s.address → next ≡ next_address rest end
    → stretches_of files end (r ∷ rest) ≡ stretch_of_row files s ∷ stretches_of files end rest
stretch_is files end next r rest s row address length after =
    let made : ℕ → ℕ → LineRow → Stretch =
    λ a n x. record { address = a; length = n; location = row_location files x } in
    let long : s.length ≡ next_address rest end - r.address =
    length ∙ ap (λ n. n - s.address) after ∙ ap (λ a. next_address rest end - a) address in
    sym (ap (λ t. t ∷ stretches_of files end rest)
    (ap (made s.address s.length) row ∙ ap (λ a. made a s.length r) address ∙ ap (λ n. made r.address n r) long))

-- an element and those after it
drop_suc : {X : Type 0} (n : ℕ) (xs : List X) (x : X) → slice_get xs n ≡ Some x → drop n xs ≡ x ∷ drop (suc n) xs
drop_suc n [] x is = absurd (cc)
drop_suc zero (y ∷ ys) x is = let same : y ≡ x = cc in ap (λ z. z ∷ ys) same
drop_suc (suc n) (y ∷ ys) x is = drop_suc n ys x is

pub drop_at : {X : Type 0} (n : ℕ) (xs : List X) (x : X) → slice_get xs n ≡ Some x → drop n xs ≡ x ∷ drop (n + 1) xs
drop_at n xs x is =
    let next : suc n ≡ n + 1 = omega arith in drop_suc n xs x is ∙ ap (λ k. x ∷ drop k xs) next

pub drop_past : {X : Type 0} (n : ℕ) (xs : List X) → length xs ≤ n → drop n xs ≡ []
drop_past zero [] past = refl
drop_past (suc n) [] past = refl
drop_past zero (y ∷ ys) past = absurd (omega arith)
drop_past (suc n) (y ∷ ys) past = drop_past n ys (omega arith)

module _ (files : List (List ℕ)) (end high : ℕ) where
  -- where no row is left, none is below the high end
  pub none_left : (n : ℕ) (rows : List LineRow) → length rows ≤ n → stretches_below files end high (drop n rows) ≡ []
  none_left n rows past = ap (stretches_below files end high) (drop_past n rows past)

  not_below : (a b : ℕ) → b ≤ a → nat_lt a b ≡ false
  not_below a b h = grind (arith, nat_tests)

  is_below : (a b : ℕ) → a < b → nat_lt a b ≡ true
  is_below a b h = grind (arith, nat_tests)

  -- nor where the next begins at or above it
  pub none_below : (n : ℕ) (rows : List LineRow) (r : LineRow) → slice_get rows n ≡ Some r → high ≤ r.address
      → stretches_below files end high (drop n rows) ≡ []
  none_below n rows r is above =
      let p : Stretch → Bool = λ t. nat_lt t.address high in
      let rest = drop (n + 1) rows in
      let first : Stretch =
      record {
        address = r.address;
        length = next_address rest end - r.address;
        location = row_location files r;
      } in
      ap (stretches_below files end high) (drop_at n rows r is)
      ∙ take_while-cons p first (stretches_of files end rest)
      ∙ ap (λ b. cond b (first ∷ stretches_below files end high rest) []) (not_below r.address high above)

  -- else it is the first of those that are left
  pub first_below : (n next : ℕ) (rows : List LineRow) (r : LineRow) (s : RowStretch) → slice_get rows n ≡ Some r
      → r.address < high → next ≡ next_address (drop (n + 1) rows) end
      → s ≡ record { address = r.address; length = next - r.address; row = r }
      → stretches_below files end high (drop n rows)
      ≡ stretch_of_row files s ∷ stretches_below files end high (drop (n + 1) rows)
  first_below n next rows r s is below after made =
      let p : Stretch → Bool = λ t. nat_lt t.address high in
      let rest = drop (n + 1) rows in
      let stretch : RowStretch = record { address = r.address; length = next - r.address; row = r } in
      ap (stretches_below files end high) (drop_at n rows r is)
      ∙ ap (take_while p) (stretch_is files end next r rest stretch refl refl refl after)
      ∙ take_while-cons p (stretch_of_row files stretch) (stretches_of files end rest)
      ∙ ap (λ b. cond b (stretch_of_row files stretch ∷ stretches_below files end high rest) [])
      (is_below r.address high below)
      ∙ ap (λ (x : RowStretch). stretch_of_row files x ∷ stretches_below files end high rest) (sym made)

-- ---- order

starts_one_way : (a e b f : ℕ) → (nat_lt a b || (b == a && nat_lt e f)) ≡ true
    → (nat_lt b a || (a == b && nat_lt f e)) ≡ false
starts_one_way a e b f h = grind (arith, nat_tests)

starts_chain : (a e b f c g : ℕ) → (nat_lt a b || (b == a && nat_lt e f)) ≡ false
    → (nat_lt b c || (c == b && nat_lt f g)) ≡ false
    → (nat_lt a c || (c == a && nat_lt e g)) ≡ false
starts_chain a e b f c g h k = grind (arith, nat_tests)

-- sequences by their starts and ends, through a view
abbrev pub starts_before : {X : Type 0} → (X → Sequence) → X → X → Bool
starts_before view x y = starts_after (view y) (view x)

pub starts_is_order : {X : Type 0} (view : X → Sequence) → IsStrictWeakOrder (starts_before view)
starts_is_order view = record {
  one_way = λ x y h. starts_one_way (view x).start (view x).end (view y).start (view y).end h;
  chain = λ x y z h k.
      starts_chain (view x).start (view x).end (view y).start (view y).end (view z).start (view z).end h k;
}
