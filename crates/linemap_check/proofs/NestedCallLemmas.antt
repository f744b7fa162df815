-- Lists of calls.
use Rattle.std.proofs.Common.{◌≡◌, ◌+◌, ◌||◌, List, [], ◌∷◌, ◌++◌, flat_map, map, refl, sym, ap, ◌∙◌, arith}
use Rattle.std.proofs.lemmas.List.Folds.{list_any-append}
use Rattle.linemap_meaning.specs.TableParts.{RangePart, Calls, no_calls, more_calls}
use Rattle.linemap_meaning.specs.Conditions.{any_outside, any_call_outside, is_outside, sibling_ranges}
use Rattle.linemap_meaning.specs.TableViews.{range_part, calls_part}
use Rattle.linemap_meaning.specs.declared.table.TableCall.{TableCall}
use Rattle.linemap_meaning.specs.declared.table.TableCall.TheViews.{out-TableCall}
use Rattle.linemap_meaning.proofs.TableViewLemmas.{inner-out, site-out}
use Rattle.linemap_check.proofs.DirectionLemmas.{or_regroup}
use Rattle.linemap_check.specs.CallCounts.{call_count}
use Rattle.linemap_check.specs.RangePasses.{any_inner_outside}

abbrev pub call_ranges : TableCall → List RangePart
call_ranges c = map range_part (out-TableCall c).ranges.items

pub sibling_ranges_calls : (cs : List TableCall) → sibling_ranges (calls_part cs) ≡ flat_map call_ranges cs
sibling_ranges_calls [] = refl
sibling_ranges_calls (c ∷ cs) =
    ap (λ rs. rs ++ sibling_ranges (calls_part cs)) (ap (λ s. s.ranges) (site-out c))
    ∙ ap (λ rs. call_ranges c ++ rs) (sibling_ranges_calls cs)

-- ranges outside, a level at a time
pub any_call_outside_levels : (parent : List RangePart) (cs : Calls)
    → any_call_outside parent cs ≡ (any_outside parent (sibling_ranges cs) || any_inner_outside cs)
any_call_outside_levels parent no_calls = refl
any_call_outside_levels parent (more_calls site inner others) =
    let below = any_outside site.ranges (sibling_ranges inner) || any_inner_outside inner in
    let beside = any_outside parent (sibling_ranges others) in
    ap (λ b. (any_outside parent site.ranges || b) || any_call_outside parent others)
    (any_call_outside_levels site.ranges inner)
    ∙ ap (λ b. (any_outside parent site.ranges || below) || b) (any_call_outside_levels parent others)
    ∙ or_regroup (any_outside parent site.ranges) below beside (any_inner_outside others)
    ∙ ap (λ b. b || (below || any_inner_outside others))
    (sym (list_any-append (is_outside parent) site.ranges (sibling_ranges others)))

-- the last call of a list, and those inlined into it
pub call_count-last : (cs : List TableCall) (c : TableCall)
    → call_count (calls_part (cs ++ c ∷ []))
    ≡ call_count (calls_part cs) + (1 + call_count (calls_part (out-TableCall c).calls.items))
call_count-last [] c = let inner = ap call_count (inner-out c) in omega arith
call_count-last (d ∷ ds) c = let later = call_count-last ds c in omega arith
