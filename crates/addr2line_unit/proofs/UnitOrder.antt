-- The ranges of a context's units.
use Rattle.std.proofs.Common.{◌≡◌, ℕ, ◌+◌, ◌<◌, ◌≤◌, List, [], ◌∷◌, ◌++◌, length, get_or, take, map, sym, ap, ◌∙◌, add-one, arith}
use Rattle.std.proofs.lemmas.List.{map-append, length-map, length-take-le, take_all}
use Rattle.std.proofs.lemmas.Simd.{map-map}
use Rattle.std.proofs.Math.Seq.{take-suc}
use Rattle.addr2line_functions.specs.Range.{Range}
use Rattle.addr2line_functions.specs.Contexts.{ContextUnit, ranges_of}
use Rattle.addr2line_functions.specs.NumberedRanges.{unit_ranges}
use Rattle.addr2line_unit.specs.ContextUnits.{unit_places, ordered_ranges}
use Rattle.addr2line_unit.specs.ResolvedUnits.{ResolvedUnit, plain_unit}

abbrev resolved_ranges : ResolvedUnit → List Range
resolved_ranges u = u.value.unit.ranges

-- the ranges of the first units
abbrev pub ranges_to : ℕ → List ResolvedUnit → List (List Range)
ranges_to n us = map resolved_ranges (take n us)

pub ranges_to-more : (n : ℕ) (us : List ResolvedUnit) (u : ResolvedUnit) → n < length us → u ≡ get_or us n u
    → ranges_to (n + 1) us ≡ ranges_to n us ++ u.value.unit.ranges ∷ []
ranges_to-more n us u below here =
    ap (λ m. map resolved_ranges (take m us)) (add-one n)
    ∙ ap (map resolved_ranges) (take-suc us n u below)
    ∙ map-append resolved_ranges (take n us) (get_or us n u ∷ [])
    ∙ ap (λ x. ranges_to n us ++ x.value.unit.ranges ∷ []) (sym here)

pub at_most : (n m : ℕ) → n < m → n ≤ m
at_most n m below = omega arith

pub ranges_to-length : (n : ℕ) (us : List ResolvedUnit) → n ≤ length us → length (ranges_to n us) ≡ n
ranges_to-length n us within = length-map (take n us) resolved_ranges ∙ length-take-le n us within

ordered-map : (us : List ContextUnit) → unit_ranges (map ranges_of us) ≡ ordered_ranges us
ordered-map us = ap unit_ranges (sym (map-map (λ u. u.ranges) unit_places us))

-- those of all
pub ranges_to-all : (n : ℕ) (us : List ResolvedUnit) → length us ≤ n
    → unit_ranges (ranges_to n us) ≡ ordered_ranges (map plain_unit us)
ranges_to-all n us past =
    ap (λ xs. unit_ranges (map resolved_ranges xs)) (take_all n us past)
    ∙ ap unit_ranges (sym (map-map ranges_of plain_unit us)) ∙ ordered-map (map plain_unit us)
