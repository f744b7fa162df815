-- The first of the loads of ranges of units.
use Rattle.std.proofs.Common.{◌≡◌, ℕ, true, false, List, [], ◌∷◌, slice_get, Option, Some, None, Result, Ok, Err, option_map, option_and_then, refl, sym, ap, ◌∙◌}
use Rattle.std.specs.Prelude.{is_some}
use Rattle.std.specs.List.{cons_option}
use Rattle.addr2line_unit.specs.Error.{Error}
use Rattle.addr2line_unit.specs.FirstAnswers.{SplitLoad, PendingLoad}
use Rattle.addr2line_unit.specs.UnitRange.{UnitRange}
use Rattle.addr2line_unit.specs.ResolvedUnits.{AnsweredUnit, pending_load}
use Rattle.addr2line_lookups.specs.Preloads.{numbered_load, load_at, loads_at, first_number, first_load}

no_item : (o : Option PendingLoad) (rest : List PendingLoad) → cons_option o rest ≡ [] → (o ≡ None) × (rest ≡ [])
no_item None rest none = (refl, none)
no_item (Some p) rest none = absurd cc

module _ (vs : List AnsweredUnit) (r : UnitRange) (old rest : List UnitRange) (is : old ≡ r ∷ rest) where
  loads_from : loads_at vs old ≡ cons_option (load_at vs r.unit) (loads_at vs rest)
  loads_from = ap (loads_at vs) is

  -- a unit without a load
  pub loads_further : load_at vs r.unit ≡ None → loads_at vs old ≡ loads_at vs rest
  loads_further none = loads_from ∙ ap (λ o. cons_option o (loads_at vs rest)) none

  -- where there are no loads, the first unit has none, and neither have the others
  pub none_here : loads_at vs old ≡ [] → (load_at vs r.unit ≡ None) × (loads_at vs rest ≡ [])
  none_here none = no_item (load_at vs r.unit) (loads_at vs rest) (sym loads_from ∙ none)

  module _ (load : SplitLoad) (here : Some (numbered_load r.unit load) ≡ load_at vs r.unit) where
    first_of_all : loads_at vs old ≡ numbered_load r.unit load ∷ loads_at vs rest
    first_of_all = loads_from ∙ ap (λ o. cons_option o (loads_at vs rest)) (sym here)

    -- one with a load is the first
    pub number_here : (all : List PendingLoad) → all ≡ loads_at vs old → Some r.unit ≡ first_number all
    number_here all left = sym (ap first_number (left ∙ first_of_all))

pub no_number : (vs : List AnsweredUnit) (old : List UnitRange) → old ≡ [] → (all : List PendingLoad)
    → all ≡ loads_at vs old → None ≡ first_number all
no_number vs old is all left = sym (ap first_number (left ∙ ap (loads_at vs) is))

-- ---- as it is asked for

module _ {A : Type 0} (see : A → SplitLoad) (vs : List AnsweredUnit) (r : UnitRange) (old rest : List UnitRange)
    (is : old ≡ r ∷ rest) where
  pub number_if_any : (o : Option A) → true ≡ is_some o
      → option_map (λ x. numbered_load r.unit (see x)) o ≡ load_at vs r.unit
      → (all : List PendingLoad) → all ≡ loads_at vs old → Some r.unit ≡ first_number all
  number_if_any None some here all left = absurd cc
  number_if_any (Some x) some here all left = number_here vs r old rest is (see x) here all left

  pub further_if_none : (o : Option A) → false ≡ is_some o
      → option_map (λ x. numbered_load r.unit (see x)) o ≡ load_at vs r.unit
      → loads_at vs old ≡ loads_at vs rest
  further_if_none None none here = loads_further vs r old rest is (sym here)
  further_if_none (Some x) none here = absurd cc

-- a load, if there is no refusal
abbrev pub ok_load : SplitLoad → Result SplitLoad Error
ok_load l = Ok l

-- a copy is refused only when out of memory
pub copies : (load : SplitLoad) (e : Error) → ok_load load ≡ Err e → ⊥
copies load e h = cc

-- ---- the first one

-- the load of the unit of a number has that number
has_number : (n : ℕ) (o : Option SplitLoad) (p : PendingLoad) → option_map (numbered_load n) o ≡ Some p → p.number ≡ n
has_number n None p h = absurd cc
has_number n (Some l) p h =
    let same : numbered_load n l ≡ p = cc in sym (ap (λ (q : PendingLoad). q.number) same)

-- the first load is that of the unit of its number
pub load_of_first : (vs : List AnsweredUnit) (rs : List UnitRange) (n : ℕ) → Some n ≡ first_number (loads_at vs rs)
    → first_load (loads_at vs rs) ≡ option_map (λ p. p.load) (load_at vs n)
load_of_first vs [] n first = absurd cc
load_of_first vs (r ∷ rs) n first = by (load_at vs r.unit) refl first (load_of_first vs rs n)
  where
    by : (o : Option PendingLoad) → load_at vs r.unit ≡ o → Some n ≡ first_number (cons_option o (loads_at vs rs))
        → (Some n ≡ first_number (loads_at vs rs)
        → first_load (loads_at vs rs) ≡ option_map (λ p. p.load) (load_at vs n))
        → first_load (cons_option o (loads_at vs rs)) ≡ option_map (λ p. p.load) (load_at vs n)
    by None is later rest = rest later
    by (Some p) is here rest =
        let number : n ≡ p.number = cc in
        let unit = number ∙ has_number r.unit (option_and_then pending_load (slice_get vs r.unit)) p is in
        sym (ap (λ k. option_map (λ (q : PendingLoad). q.load) (load_at vs k)) unit
        ∙ ap (option_map (λ (q : PendingLoad). q.load)) is)

-- where none has a number, there is none
pub no_first_load : (ps : List PendingLoad) → None ≡ first_number ps → first_load ps ≡ None
no_first_load [] h = refl
no_first_load (p ∷ ps) h = absurd cc
