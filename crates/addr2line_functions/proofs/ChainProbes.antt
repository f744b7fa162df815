-- How many looks at entries the calls of an address take.
use Rattle.std.proofs.Common.{◌≡◌, ℕ, ◌+◌, ◌*◌, ◌≤◌, List, length, ap, ◌∙◌, arith}
use Rattle.std.proofs.lemmas.List.{length-map}
use Rattle.addr2line_ranges.specs.Pairs.{pairs_from}
use Rattle.addr2line_ranges.specs.InlinedCalls.{Call, ranges_of_call}
use Rattle.addr2line_functions.specs.CountedFunctions.{depth_of_call, search_probes, call_probes}
use Rattle.addr2line_functions.specs.RangesByNumber.{numbered_range, numbered_ranges}
use Rattle.addr2line_functions.specs.declared.numbered_range.NumberedRange.{NumberedRange}

-- one search among the ranges of calls
pub probes_of_search : (cs : List Call) (rs : List NumberedRange) → rs ≡ numbered_ranges depth_of_call ranges_of_call cs
    → search_probes (length rs) ≡ call_probes cs
probes_of_search cs rs is =
    ap (λ l. search_probes (length l)) is
    ∙ ap search_probes (length-map (pairs_from ranges_of_call 0 cs) (numbered_range depth_of_call))

-- one call further, what is left is enough for the others
pub looks-next : (old new bound p q n m : ℕ) → n ≡ m + 1 → q ≡ p → new ≤ old + q → old + (n + 1) * p ≤ bound
    → new + (m + 1) * p ≤ bound
looks-next old new bound p q n m is each more enough =
    let same : (n + 1) * p ≡ (m + 1 + 1) * p = ap (λ k. (k + 1) * p) is in
    omega (arith, each, same, more, enough)
