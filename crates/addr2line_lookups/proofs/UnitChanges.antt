-- What comes to hold of units by calls: it held before, or is said of units that they ask.
use Rattle.std.proofs.Common.{◌≡◌, ◌⊎◌, inl, inr, ℕ, zero, suc, List, [], ◌∷◌, get_or, set, slice_get, IfSome, refl, sym, ap, subst}
use Rattle.addr2line_unit.specs.ResolvedUnits.{ResolvedUnit}
use Rattle.addr2line_lookups.specs.KeptUnits.{HoldsStill}

step_on : {A : Type 0} (n k : ℕ) → A ⊎ (n ≡ k) → A ⊎ (suc n ≡ suc k)
step_on n k (inl x) = inl x
step_on n k (inr is) = inr (ap suc is)

module _ (P : ResolvedUnit → Type 0) where
  abbrev holds_at : List ResolvedUnit → ℕ → Type 0
  holds_at us n = IfSome (slice_get us n) P

  -- what holds of the unit of a number held before, or a call asks that unit
  abbrev pub ChangesAsked : (ℕ → Type 0) → List ResolvedUnit → List ResolvedUnit → Type 0
  ChangesAsked asks old new = (n : ℕ) → holds_at new n → holds_at old n ⊎ asks n

  -- ---- one unit

  -- one that is put back
  pub changes_one : (us : List ResolvedUnit) (k : ℕ) (new : ResolvedUnit) → ChangesAsked (λ n. n ≡ k) us (set us k new)
  changes_one [] k new n holds = inl holds
  changes_one (v ∷ us) zero new zero holds = inr refl
  changes_one (v ∷ us) zero new (suc n) holds = inl holds
  changes_one (v ∷ us) (suc k) new zero holds = inl holds
  changes_one (v ∷ us) (suc k) new (suc n) holds = step_on n k (changes_one us k new n holds)

  -- one of which no more holds than before
  pub held_before : (us : List ResolvedUnit) (k : ℕ) (u new : ResolvedUnit) → u ≡ get_or us k u → (P new → P u)
      → HoldsStill P (set us k new) us
  held_before [] k u new is before n holds = holds
  held_before (v ∷ us) zero u new is before zero holds = subst P is (before holds)
  held_before (v ∷ us) zero u new is before (suc n) holds = holds
  held_before (v ∷ us) (suc k) u new is before zero holds = holds
  held_before (v ∷ us) (suc k) u new is before (suc n) holds = held_before us k u new is before n holds

  -- ---- one change after the other

  pub changes_none : (asks : ℕ → Type 0) (us : List ResolvedUnit) → ChangesAsked asks us us
  changes_none asks us n holds = inl holds

  -- where no more holds than before
  pub changes_nothing : (asks : ℕ → Type 0) (us vs : List ResolvedUnit) → HoldsStill P vs us → ChangesAsked asks us vs
  changes_nothing asks us vs none n holds = inl (none n holds)

  -- or no more before
  pub changes_after : (asks : ℕ → Type 0) (us vs ws : List ResolvedUnit) → HoldsStill P vs us → ChangesAsked asks vs ws
      → ChangesAsked asks us ws
  changes_after asks us vs ws none then n holds = by (then n holds)
    where
      by : holds_at vs n ⊎ asks n → holds_at us n ⊎ asks n
      by (inl before) = inl (none n before)
      by (inr asked) = inr asked

  -- or no more after it
  pub changes_first : (asks : ℕ → Type 0) (us vs ws : List ResolvedUnit) → ChangesAsked asks us vs → HoldsStill P ws vs
      → ChangesAsked asks us ws
  changes_first asks us vs ws first none n holds = first n (none n holds)

  -- where units that are asked change last
  pub changes_more : (asks here : ℕ → Type 0) (us vs ws : List ResolvedUnit) → ((n : ℕ) → here n → asks n)
      → ChangesAsked asks us vs → ChangesAsked here vs ws → ChangesAsked asks us ws
  changes_more asks here us vs ws are_asked first then n holds = by (then n holds)
    where
      by : holds_at vs n ⊎ here n → holds_at us n ⊎ asks n
      by (inl before) = first n before
      by (inr is) = inr (are_asked n is)

  -- where one does
  pub changes_both : (asks : ℕ → Type 0) (us vs ws : List ResolvedUnit) (k : ℕ) → asks k → ChangesAsked asks us vs
      → ChangesAsked (λ n. n ≡ k) vs ws → ChangesAsked asks us ws
  changes_both asks us vs ws k asked =
      changes_more asks (λ n. n ≡ k) us vs ws (λ n is. subst asks (sym is) asked)
