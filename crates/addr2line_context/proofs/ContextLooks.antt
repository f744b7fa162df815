-- The looks of lookups over a context's units, by their numbers, are those that the definition says.
use Rattle.std.proofs.Common.{◌≡◌, ℕ, List, [], ◌∷◌, map, refl, sym, ap, ◌∙◌, subst}
use Rattle.std.proofs.lemmas.Simd.{map-map}
use Rattle.std.proofs.lemmas.List.Elements.{All-head, All-tail}
use Rattle.addr2line_lookups.specs.DwarfFiles.{DwarfFile}
use Rattle.addr2line_lookups.specs.UnitFacts.{UnitFacts}
use Rattle.addr2line_lookups.specs.Contexts.{ContextUnit, ranges_of}
use Rattle.addr2line_lookups.specs.Pairs.{covering_pairs}
use Rattle.addr2line_lookups.specs.UnitRange.{UnitRange}
use Rattle.addr2line_lookups.specs.NumberedRanges.{numbered_range, covering_ranges}
use Rattle.addr2line_lookups.specs.ContextUnits.{ordered_ranges}
use Rattle.addr2line_lookups.specs.ResolvedUnits.{AnsweredUnit, ResolvedUnit, value_of_unit, plain_unit}
use Rattle.addr2line_lookups.specs.AnsweredUnits.{answers_of, IsOfFile, AreOfFile}
use Rattle.addr2line_lookups.specs.KeptUnits.{AsksAmong, AsksForRow}
use Rattle.addr2line_lookups.specs.KeptCalls.{known_among}
use Rattle.addr2line_lookups.specs.LookupCosts.{row_looks}
use Rattle.addr2line_lookups.specs.EntryReferences.{KnownUnits}
use Rattle.addr2line_lookups.specs.ContextNames.{known_units}
use Rattle.addr2line_lookups.proofs.NewUnits.{unit_of}
use Rattle.addr2line_lookups.proofs.PendingUnits.{covering_by_numbers}
use Rattle.addr2line_context.specs.AnsweredContexts.{AnsweredContext}
use Rattle.addr2line_context.specs.ContextCosts.{answered_unit, units_with_answers, answered_units, ranges_over, location_looks, AsksForPlace}
use Rattle.addr2line_context.proofs.ContextParts.{context_with}
use Rattle.addr2line_context.proofs.ContextWalks.{known_in}

-- ---- units of a file with their answers

units_again : (file : DwarfFile) (vs : List AnsweredUnit) → AreOfFile file vs
    → units_with_answers file (map unit_of vs) (answers_of vs) ≡ vs
units_again file [] h = refl
units_again file (v ∷ vs) h =
    ap (λ ws. answered_unit file v.unit v.first ∷ ws) (units_again file vs (All-tail (IsOfFile file) v vs h))
    ∙ ap (λ f. answered_unit f v.unit v.first ∷ vs) (sym (All-head (IsOfFile file) v vs h))

module _ (file : DwarfFile) (us : List ResolvedUnit) (s : List UnitFacts)
    (of_file : AreOfFile file (map value_of_unit us)) (a : ℕ) (c : AnsweredContext)
    (is : context_with file us s ≡ c) where
  abbrev vs : List AnsweredUnit
  vs = map value_of_unit us

  abbrev covering : List UnitRange
  covering = covering_ranges a (ordered_ranges (map plain_unit us))

  same_units : map unit_of vs ≡ map plain_unit us
  same_units = map-map unit_of value_of_unit us

  pub answered_here : answered_units c ≡ vs
  answered_here =
      ap answered_units (sym is)
      ∙ ap (λ units. units_with_answers file units (answers_of vs)) (sym same_units)
      ∙ units_again file vs of_file

  pub known_here : known_units c.plain ≡ known_among us s
  known_here = ap (λ (x : AnsweredContext). known_units x.plain) (sym is) ∙ known_in file us s

  abbrev pairs_over : List ContextUnit → List UnitRange
  pairs_over units = map numbered_range (covering_pairs ranges_of units a)

  pub ranges_here : covering ≡ ranges_over c a
  ranges_here =
      ap (λ units. covering_ranges a (ordered_ranges units)) (sym same_units)
      ∙ covering_by_numbers file vs of_file a
      ∙ ap pairs_over same_units
      ∙ ap (λ (x : AnsweredContext). ranges_over x a) is

  -- those for a place
  pub location_looks_here : row_looks (map plain_unit us) vs a covering ≡ location_looks c a
  location_looks_here =
      ap (λ ws. row_looks (map plain_unit us) ws a covering) (sym answered_here)
      ∙ ap (row_looks (map plain_unit us) (answered_units c) a) ranges_here
      ∙ ap (λ (x : AnsweredContext). row_looks x.plain.context.units (answered_units c) a (ranges_over c a)) is

  -- those of a search
  pub search_looks_here : (looks : KnownUnits → List AnsweredUnit → ℕ → List UnitRange → ℕ)
      → looks (known_among us s) vs a covering
      ≡ looks (known_units c.plain) (answered_units c) a (ranges_over c a)
  search_looks_here looks =
      ap (λ known. looks known vs a covering) (sym known_here)
      ∙ ap (λ ws. looks (known_units c.plain) ws a covering) (sym answered_here)
      ∙ ap (looks (known_units c.plain) (answered_units c) a) ranges_here

  -- the units that are asked for a place
  pub asks_here : (P : (ℕ → Type 0) → Type 0) → P (AsksForRow (map plain_unit us) a) → P (AsksForPlace c a)
  asks_here P h =
      subst (λ (x : AnsweredContext). P (AsksAmong x.plain.context.units a (ranges_over c a))) is
      (subst (λ rs. P (AsksAmong (map plain_unit us) a rs)) ranges_here h)

  pub asks_there : (P : (ℕ → Type 0) → Type 0) → P (AsksForPlace c a) → P (AsksForRow (map plain_unit us) a)
  asks_there P h =
      subst (λ rs. P (AsksAmong (map plain_unit us) a rs)) (sym ranges_here)
      (subst (λ (x : AnsweredContext). P (AsksAmong x.plain.context.units a (ranges_over c a))) (sym is) h)
