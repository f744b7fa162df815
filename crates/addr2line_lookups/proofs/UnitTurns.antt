-- The turn of the unit of a number.
use Rattle.std.proofs.Common.{◌≡◌, inl, ℕ, zero, suc, ◌<◌, ◌≤◌, true, List, [], ◌∷◌, length, map, set, get_or, slice_get, Option, Some, None, IfSome, option_map, Result, Ok, refl, sym, ap, ◌∙◌, subst, arith}
use Rattle.std.proofs.lemmas.List.{map-set}
use Rattle.std.proofs.lemmas.Option.{slice_get-map, slice_get-get_or, slice_get_past}
use Rattle.addr2line_unit.specs.Error.{Error}
use Rattle.addr2line_unit.specs.ResolvedUnits.{AnsweredUnit, ResolvedUnit, value_of_unit}
use Rattle.addr2line_lookups.specs.KeptUnits.{KeepsFunctionsAt}
use Rattle.addr2line_lookups.specs.UnitParses.{without_load, ChecksOrNoMemory, after_turn_of, after_turn, check_if_any, check_unit_at}

pub set_here : {A : Type 0} (xs : List A) (n : ℕ) (x : A) → n < length xs → slice_get (set xs n x) n ≡ Some x
set_here [] n x below = absurd (omega (arith, below))
set_here (y ∷ ys) zero x below = refl
set_here (y ∷ ys) (suc n) x below = set_here ys n x (omega (arith, below))

module _ (us : List ResolvedUnit) (n : ℕ) where
  value_at : (u : ResolvedUnit) → n < length us → u ≡ get_or us n u
      → slice_get (map value_of_unit us) n ≡ Some u.value
  value_at u below is =
      slice_get-map value_of_unit us n
      ∙ ap (option_map value_of_unit) (slice_get-get_or us n u below ∙ ap Some (sym is))

  no_value_past : length us ≤ n → slice_get (map value_of_unit us) n ≡ None
  no_value_past past = slice_get-map value_of_unit us n ∙ ap (option_map value_of_unit) (slice_get_past us n past)

  -- ---- of none

  pub no_check_past : (check : AnsweredUnit → Result (Unit {0}) Error) → length us ≤ n
      → ChecksOrNoMemory (Ok tt) (check_unit_at check (map value_of_unit us) n)
  no_check_past check past = inl (ap (check_if_any check) (no_value_past past))

  pub no_functions_past : length us ≤ n → KeepsFunctionsAt us n
  no_functions_past past =
      subst (λ (o : Option ResolvedUnit). IfSome o (λ u. u.keeps_functions ≡ true))
      (sym (slice_get_past us n past)) tt

  -- ---- of one that is there

  module _ (u new : ResolvedUnit) (below : n < length us) (is : u ≡ get_or us n u) where
    pub turn_there : new.value ≡ without_load u.value
        → map value_of_unit (set us n new) ≡ after_turn (map value_of_unit us) n
    turn_there value =
        map-set value_of_unit us n new
        ∙ ap (set (map value_of_unit us) n) value
        ∙ sym (ap (after_turn_of (map value_of_unit us) n) (value_at u below is))

    value_set : slice_get (map value_of_unit (set us n new)) n ≡ Some new.value
    value_set = slice_get-map value_of_unit (set us n new) n ∙ ap (option_map value_of_unit) (set_here us n new below)

    pub check_there : (check : AnsweredUnit → Result (Unit {0}) Error) (r : Result (Unit {0}) Error)
        → ChecksOrNoMemory r (check new.value)
        → ChecksOrNoMemory r (check_unit_at check (map value_of_unit (set us n new)) n)
    check_there check r h =
        subst (λ o. ChecksOrNoMemory r (check_if_any check o)) (sym value_set) h

    pub functions_there : new.keeps_functions ≡ true → KeepsFunctionsAt (set us n new) n
    functions_there kept =
        subst (λ (o : Option ResolvedUnit). IfSome o (λ x. x.keeps_functions ≡ true))
        (sym (set_here us n new below)) kept

    -- as it was before
    pub check_before : (check : AnsweredUnit → Result (Unit {0}) Error)
        → check_unit_at check (map value_of_unit us) n ≡ check u.value
    check_before check = ap (check_if_any check) (value_at u below is)
