-- Slices that are written from their first item on.
use Rattle.std.proofs.Common.{◌≡◌, ◌≢◌, ◌⊎◌, inl, inr, ℕ, zero, suc, ◌+◌, ◌<◌, ◌≤◌, List, [], ◌∷◌, length, set, slice_set, slice_get, Option, Some, option_map, refl, sym, ap, ◌∙◌, subst, arith}
use Rattle.std.proofs.lemmas.Bool.{cases_lt}
use Rattle.std.proofs.lemmas.List.{length-set}

get_here : {A : Type 0} (xs : List A) (i : ℕ) (x : A) → i < length xs → slice_get (set xs i x) i ≡ Some x
get_here [] i x inside = absurd (omega (arith, inside))
get_here (y ∷ ys) zero x inside = refl
get_here (y ∷ ys) (suc i) x inside = get_here ys i x (omega (arith, inside))

get_beside : {A : Type 0} (xs : List A) (i k : ℕ) (x : A) → k ≢ i → slice_get (set xs i x) k ≡ slice_get xs k
get_beside [] i k x other = refl
get_beside (y ∷ ys) zero zero x other = absurd (other refl)
get_beside (y ∷ ys) zero (suc k) x other = refl
get_beside (y ∷ ys) (suc i) zero x other = refl
get_beside (y ∷ ys) (suc i) (suc k) x other = get_beside ys i k x (λ same. other (ap suc same))

-- The items before one are what is wanted, and those from it on are the old ones.
module _ {A B : Type 0} (see : A → B) (wanted : ℕ → Option B) (old : List A) where
  abbrev pub AreWritten : List A → ℕ → Type 0
  AreWritten xs i =
      (length xs ≡ length old)
      × ((k : ℕ) → k < i → option_map see (slice_get xs k) ≡ wanted k)
      × ((k : ℕ) → i ≤ k → slice_get xs k ≡ slice_get old k)

  pub write_next : (xs : List A) (i : ℕ) (x : A) → AreWritten xs i → i < length xs → Some (see x) ≡ wanted i
      → AreWritten (slice_set xs i x) (i + 1)
  write_next xs i x h inside is = (length-set xs i x ∙ h.0, before, after)
    where
      at : (k : ℕ) → (k < i) ⊎ (i ≤ k) → k < i + 1 → option_map see (slice_get (set xs i x) k) ≡ wanted k
      at k (inl below) last =
          ap (option_map see) (get_beside xs i k x (λ same. absurd (omega (arith, below, same)))) ∙ h.1 k below
      at k (inr past) last =
          let same : k ≡ i = omega (arith, past, last) in
          subst (λ n. option_map see (slice_get (set xs i x) n) ≡ wanted n) (sym same)
          (ap (option_map see) (get_here xs i x inside) ∙ is)

      before : (k : ℕ) → k < i + 1 → option_map see (slice_get (set xs i x) k) ≡ wanted k
      before k last = at k (cases_lt k i) last

      after : (k : ℕ) → i + 1 ≤ k → slice_get (set xs i x) k ≡ slice_get old k
      after k past =
          get_beside xs i k x (λ same. absurd (omega (arith, past, same))) ∙ h.2 k (omega (arith, past))
