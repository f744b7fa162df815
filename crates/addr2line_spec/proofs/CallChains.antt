-- The calls of an address by their depths.
use Rattle.std.proofs.Common.{◌≡◌, ℕ, zero, suc, ◌+◌, ◌-◌, ◌≤◌, false, cond, ◌==◌, List, [], ◌∷◌, ◌++◌, length, map, filter, Option, Some, None, option_map, MatchOption, refl, sym, ap, ◌∙◌, subst, arith}
use Rattle.std.specs.List.{range_with_len}
use Rattle.std.proofs.lemmas.Bool.{eqb-true}
use Rattle.std.proofs.lemmas.Bool.Decides.{nat_tests}
use Rattle.std.proofs.lemmas.List.Elements.{filter-append}
use Rattle.gimli_lines_machine.specs.Range.{Range}
use Rattle.addr2line_spec.specs.Choice.{holder}
use Rattle.addr2line_spec.specs.Pairs.{Pair, pairs_from, pairs_of}
use Rattle.addr2line_spec.proofs.RangeHolders.{holder_passes}
use Rattle.addr2line_spec.specs.InlinedCalls.{Call, ranges_of_call, call_ranges, call_at_depth, depth_count, up_to_none, chain_from}

-- ---- depths

-- the call that holds an address at a depth is one of that depth
pub depth_of_call_at : (cs : List Call) (a depth : ℕ) (c : Call) → call_at_depth cs a depth ≡ Some c → c.depth ≡ depth
depth_of_call_at cs a depth c e = by (holder (λ p. p.range) a (call_ranges depth cs)) refl e
  where
    by : (o : Option (Pair Call)) → holder (λ p. p.range) a (call_ranges depth cs) ≡ o
        → option_map (λ (p : Pair Call). p.unit) o ≡ Some c → c.depth ≡ depth
    by None found e = cc
    by (Some p) found e =
        let same : p.unit ≡ c = cc in
        ap (λ (d : Call). d.depth) (sym same)
        ∙ eqb-true p.unit.depth depth
        (holder_passes (λ (q : Pair Call). q.range) (λ (q : Pair Call). q.unit.depth == depth) a
        (pairs_from ranges_of_call 0 cs) p found)

-- no range is a call's of another depth
none_of : (n depth : ℕ) (c : Call) (rs : List Range) → (c.depth == depth) ≡ false
    → filter (λ (p : Pair Call). p.unit.depth == depth) (map (λ r. record { range = r; number = n; unit = c }) rs) ≡ []
none_of n depth c [] h = refl
none_of n depth c (r ∷ rs) h =
    ap (λ b. cond b (record { range = r; number = n; unit = c }
    ∷ filter (λ (p : Pair Call). p.unit.depth == depth) (map (λ r. record { range = r; number = n; unit = c }) rs))
    (filter (λ (p : Pair Call). p.unit.depth == depth) (map (λ r. record { range = r; number = n; unit = c }) rs)))
    h
    ∙ none_of n depth c rs h

-- none has a depth from the first on that no call has
none_deeper : (n depth : ℕ) (cs : List Call) → depth_count cs ≤ depth
    → filter (λ (p : Pair Call). p.unit.depth == depth) (pairs_from ranges_of_call n cs) ≡ []
none_deeper n depth [] h = refl
none_deeper n depth (c ∷ cs) h =
    let less : depth_count cs ≤ depth = omega arith in
    let other : (c.depth == depth) ≡ false = grind (arith, nat_tests) in
    filter-append (λ (p : Pair Call). p.unit.depth == depth) (pairs_of ranges_of_call n c)
    (pairs_from ranges_of_call (n + 1) cs)
    ∙ ap (λ l. l ++ filter (λ (p : Pair Call). p.unit.depth == depth) (pairs_from ranges_of_call (n + 1) cs))
    (none_of n depth c c.ranges other)
    ∙ none_deeper (n + 1) depth cs less

no_call_at_depth : (cs : List Call) (a depth : ℕ) → depth_count cs ≤ depth → call_at_depth cs a depth ≡ None
no_call_at_depth cs a depth h =
    ap (λ l. option_map (λ (p : Pair Call). p.unit) (holder (λ (p : Pair Call). p.range) a l))
    (none_deeper 0 depth cs h)

-- ---- chains

-- the chain of a number of depths from one on
abbrev chain_within : List Call → ℕ → ℕ → ℕ → List Call
chain_within cs a depth n = up_to_none (map (call_at_depth cs a) (range_with_len depth n))

-- what follows from the call of a depth, if there is one
abbrev Goes : List Call → ℕ → ℕ → List Call → Option Call → Type 0
Goes cs a depth chain o = MatchOption o (chain ≡ []) (λ c. chain ≡ c ∷ chain_from cs a (depth + 1))

goes_within : (cs : List Call) (a depth n : ℕ) (o : Option Call) → n ≡ depth_count cs - (depth + 1)
    → Goes cs a depth (up_to_none (o ∷ map (call_at_depth cs a) (range_with_len (depth + 1) n))) o
goes_within cs a depth n None h = refl
goes_within cs a depth n (Some c) h = ap (λ k. c ∷ chain_within cs a (depth + 1) k) h

pub chain_step : (cs : List Call) (a depth : ℕ) → Goes cs a depth (chain_from cs a depth) (call_at_depth cs a depth)
chain_step cs a depth = by (depth_count cs - depth) refl
  where
    by : (n : ℕ) → depth_count cs - depth ≡ n → Goes cs a depth (chain_within cs a depth n) (call_at_depth cs a depth)
    by zero h = let P : Option Call → Type 0 =
        λ o. Goes cs a depth [] o in subst P (sym (no_call_at_depth cs a depth (omega arith))) refl
    by (suc n) h = goes_within cs a depth n (call_at_depth cs a depth) (omega arith)

-- calls whose depths follow each other from one on
abbrev Follow : ℕ → List Call → Type 0
Follow depth cs = map (λ c. c.depth) cs ≡ range_with_len depth (length cs)

follow_one : (depth : ℕ) (o : Option Call) (os : List (Option Call)) → ((c : Call) → o ≡ Some c → c.depth ≡ depth)
    → Follow (depth + 1) (up_to_none os) → Follow depth (up_to_none (o ∷ os))
follow_one depth None os h k = refl
follow_one depth (Some c) os h k =
    ap (λ d. d ∷ map (λ (x : Call). x.depth) (up_to_none os)) (h c refl) ∙ ap (λ l. depth ∷ l) k

follow_within : (cs : List Call) (a depth n : ℕ) → Follow depth (chain_within cs a depth n)
follow_within cs a depth zero = refl
follow_within cs a depth (suc n) =
    follow_one depth (call_at_depth cs a depth) (map (call_at_depth cs a) (range_with_len (depth + 1) n))
    (depth_of_call_at cs a depth) (follow_within cs a (depth + 1) n)

pub depths_follow : (cs : List Call) (a depth : ℕ)
    → map (λ c. c.depth) (chain_from cs a depth) ≡ range_with_len depth (length (chain_from cs a depth))
depths_follow cs a depth = follow_within cs a depth (depth_count cs - depth)
