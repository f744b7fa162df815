-- Units whose lines are kept, and what refuses the lines of all.
use Rattle.std.proofs.Common.{◌≡◌, ℕ, zero, ◌+◌, ◌<◌, ◌≤◌, List, [], ◌∷◌, length, get_or, set, drop, map, suc, slice_get, Some, IfSome, Result, Ok, Err, refl, sym, ap, ◌∙◌, subst, arith, add-one}
use Rattle.std.proofs.lemmas.List.{length-map}
use Rattle.std.proofs.lemmas.Simd.{map-map}
use Rattle.std.proofs.lemmas.Option.{slice_get-get_or, slice_get_past}
use Rattle.std.proofs.Math.Seq.{drop-cons}
use Rattle.addr2line_unit.specs.Error.{Error}
use Rattle.addr2line_unit.specs.Results.{and_then}
use Rattle.addr2line_unit.specs.Lines.{Lines}
use Rattle.addr2line_unit.specs.Contexts.{ContextUnit, all_lines, all_lines_or_refusal}
use Rattle.addr2line_unit.specs.ResolvedUnits.{ResolvedUnit, value_of_unit, plain_unit, KeepsLines}
use Rattle.addr2line_unit.proofs.NewUnits.{unit_of}
use Rattle.addr2line_lookups.specs.KeptUnits.{KeepsAt, check_of, check_at}

-- ---- kept lines

module _ (us : List ResolvedUnit) (number : ℕ) where
  -- of a unit that is there
  pub keeps_at : (u : ResolvedUnit) → Some u ≡ slice_get us number → KeepsAt us number → KeepsLines u
  keeps_at u found h = subst (λ o. IfSome o KeepsLines) (sym found) h

  -- of none
  pub keeps_past : length us ≤ number → KeepsAt us number
  keeps_past past = subst (λ o. IfSome o KeepsLines) (sym (slice_get_past us number past)) tt

-- one that was put there
pub keeps_set : (us : List ResolvedUnit) (number : ℕ) (u : ResolvedUnit) → KeepsLines u
    → KeepsAt (set us number u) number
keeps_set [] number u keeps = tt
keeps_set (v ∷ us) zero u keeps = keeps
keeps_set (v ∷ us) (suc n) u keeps = keeps_set us n u keeps

-- ---- what refuses all lines

abbrev without_value : {A : Type 0} → Result A Error → Result (Unit {0}) Error
without_value r = and_then r (λ lines. Ok tt)

abbrev one_more : Lines → Result (List Lines) Error → Result (List Lines) Error
one_more l r = and_then r (λ ls. Ok (l ∷ ls))

lines_change_nothing : (l : Lines) (r : Result (List Lines) Error) → without_value (one_more l r) ≡ without_value r
lines_change_nothing l (Ok ls) = refl
lines_change_nothing l (Err e) = refl

first_lines : (r : Result Lines Error) (rest : Result (List Lines) Error)
    → without_value (and_then r (λ y. one_more y rest)) ≡ and_then (without_value r) (λ x. without_value rest)
first_lines (Ok l) rest = lines_change_nothing l rest
first_lines (Err e) rest = refl

-- those of the units from a number on
abbrev pub check_from : ℕ → List ContextUnit → Result (Unit {0}) Error
check_from n us = all_lines_or_refusal (drop n us)

check_split : (us : List ContextUnit) (n : ℕ) (d : ContextUnit) → n < length us
    → check_from n us ≡ and_then (check_at us n) (λ x. check_from (n + 1) us)
check_split us n d below =
    ap all_lines_or_refusal (drop-cons us n d below)
    ∙ first_lines (get_or us n d).lines (all_lines (drop (suc n) us))
    ∙ ap (λ m. and_then (without_value (get_or us n d).lines) (λ x. check_from m us)) (sym (add-one n))
    ∙ ap (λ o. and_then (check_of o) (λ x. check_from (n + 1) us)) (sym (slice_get-get_or us n d below))

pub check_next : (us : List ContextUnit) (n : ℕ) → n < length us
    → check_from n us ≡ and_then (check_at us n) (λ x. check_from (n + 1) us)
check_next [] n below = absurd (omega (arith, below))
check_next (u ∷ us) n below = check_split (u ∷ us) n u below

-- lines that can be read refuse nothing
pub check_passes : (us : List ContextUnit) (n : ℕ) → n < length us → check_at us n ≡ Ok tt
    → check_from (n + 1) us ≡ check_from n us
check_passes us n below h = sym (check_next us n below ∙ ap (λ r. and_then r (λ x. check_from (n + 1) us)) h)

-- others refuse all
pub check_refuses : (us : List ContextUnit) (n : ℕ) (e : Error) → n < length us → check_at us n ≡ Err e
    → check_from n us ≡ Err e
check_refuses us n e below h = check_next us n below ∙ ap (λ r. and_then r (λ x. check_from (n + 1) us)) h

-- the units' values alone matter
pub same_plain : (us vs : List ResolvedUnit) → map value_of_unit us ≡ map value_of_unit vs
    → map plain_unit us ≡ map plain_unit vs
same_plain us vs h =
    sym (map-map unit_of value_of_unit us) ∙ ap (map unit_of) h ∙ map-map unit_of value_of_unit vs

pub same_length : (us vs : List ResolvedUnit) → map value_of_unit us ≡ map value_of_unit vs → length us ≡ length vs
same_length us vs h =
    sym (length-map us value_of_unit) ∙ ap length h ∙ length-map vs value_of_unit

-- ---- units with the same values

module _ (us vs : List ResolvedUnit) (same : map value_of_unit vs ≡ map value_of_unit us) (n : ℕ)
    (whole : Result (Unit {0}) Error) (before : check_from n (map plain_unit us) ≡ whole) where
  below_plain : n < length vs → n < length (map plain_unit us)
  below_plain below =
      subst (λ k. n < k) (same_length vs us same ∙ sym (length-map us plain_unit)) below

  check_same : check_at (map plain_unit us) n ≡ check_at (map plain_unit vs) n
  check_same = ap (λ xs. check_at xs n) (sym (same_plain vs us same))

  pub check_more : n < length vs → check_at (map plain_unit vs) n ≡ Ok tt
      → check_from (n + 1) (map plain_unit us) ≡ whole
  check_more below h = check_passes (map plain_unit us) n (below_plain below) (check_same ∙ h) ∙ before

  pub check_stops : (e : Error) → n < length vs → check_at (map plain_unit vs) n ≡ Err e → whole ≡ Err e
  check_stops e below h = sym before ∙ check_refuses (map plain_unit us) n e (below_plain below) (check_same ∙ h)
