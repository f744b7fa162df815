-- The calls of one depth: no two of their ranges overlap, and the one that holds an address is the table's.
use Rattle.std.proofs.Common.{◌≡◌, ℕ, ◌+◌, ◌<◌, ◌≤◌, Bool, true, false, cond, ◌==◌, ◌&&◌, ◌||◌, List, [], ◌∷◌, ◌++◌, find, Option, Some, None, refl, sym, ap, ◌∙◌, arith}
use Rattle.std.specs.List.{list_any}
use Rattle.std.specs.Option.{option_or}
use Rattle.std.proofs.lemmas.Bool.{or_parts, or_from, ne_eqb, eqb-true}
use Rattle.std.proofs.lemmas.List.{append_assoc}
use Rattle.std.proofs.lemmas.List.Folds.{list_any-append, find-append}
use Rattle.linemap_places_laws.specs.TableParts.{RangePart, Site, Calls, no_calls, more_calls}
use Rattle.linemap_places_laws.specs.Conditions.{any_overlap, any_outside, is_outside, is_empty_range, any_call, sibling_ranges, any_call_outside, any_inner_overlap, any_calls_overlap}
use Rattle.linemap_places_laws.specs.Meaning.{any_holds, chain}
use Rattle.linemap_places_laws.proofs.TableCallChains.{chain_ends}
use Rattle.linemap_places_laws.proofs.TableRangeHolders.{not_in_rest, rest_apart}
use Rattle.linemap_frames_laws.specs.CallAgreement.{CallAtDepth, calls_at_depth, nested_calls}
use Rattle.linemap_frames_laws.proofs.RangeCounts.{many, many-append, at_most_one, no_more, others_hold_none}

-- ---- the ranges of a depth

abbrev pub ranges_at : ℕ → List CallAtDepth → List RangePart
ranges_at t [] = []
ranges_at t (p ∷ ps) = cond (p.depth == t) p.site.ranges [] ++ ranges_at t ps

ranges_at-append : (t : ℕ) (ps qs : List CallAtDepth) → ranges_at t (ps ++ qs) ≡ ranges_at t ps ++ ranges_at t qs
ranges_at-append t [] qs = refl
ranges_at-append t (p ∷ ps) qs =
    ap (λ l. cond (p.depth == t) p.site.ranges [] ++ l) (ranges_at-append t ps qs)
    ∙ sym (append_assoc (cond (p.depth == t) p.site.ranges []) (ranges_at t ps) (ranges_at t qs))

-- those of a call and what follows it
ranges_of_all : (t d : ℕ) (site : Site) (inner others : Calls)
    → ranges_at t (calls_at_depth d (more_calls site inner others))
    ≡ cond (d == t) site.ranges []
    ++ (ranges_at t (calls_at_depth (d + 1) inner) ++ ranges_at t (calls_at_depth d others))
ranges_of_all t d site inner others =
    ap (λ l. cond (d == t) site.ranges [] ++ l)
    (ranges_at-append t (calls_at_depth (d + 1) inner) (calls_at_depth d others))

-- deeper calls have none
none_above : (t d : ℕ) (cs : Calls) → t < d → ranges_at t (calls_at_depth d cs) ≡ []
none_above t d no_calls h = refl
none_above t d (more_calls site inner others) h =
    ranges_of_all t d site inner others
    ∙ ap (λ b. cond b site.ranges []
    ++ (ranges_at t (calls_at_depth (d + 1) inner) ++ ranges_at t (calls_at_depth d others)))
    (ne_eqb d t (λ same. omega (arith, same)))
    ∙ ap (λ l. l ++ ranges_at t (calls_at_depth d others)) (none_above t (d + 1) inner (omega arith))
    ∙ none_above t d others h

-- ---- each address is held once

-- calls inside others don't overlap those beside them
siblings_inside : (parent : List RangePart) (cs : Calls) → any_call_outside parent cs ≡ false
    → any_outside parent (sibling_ranges cs) ≡ false
siblings_inside parent no_calls h = refl
siblings_inside parent (more_calls site inner others) h =
    let p =
    or_parts (any_outside parent site.ranges || any_call_outside site.ranges inner) (any_call_outside parent others)
    h in
    let q = or_parts (any_outside parent site.ranges) (any_call_outside site.ranges inner) p.0 in
    list_any-append (is_outside parent) site.ranges (sibling_ranges others)
    ∙ or_from (any_outside parent site.ranges) (any_outside parent (sibling_ranges others)) q.0
    (siblings_inside parent others p.1)

-- the calls of a depth hold an address no more often than those that they are inlined into
few_at : (b t d : ℕ) (parent : List RangePart) (cs : Calls) → any_call_outside parent cs ≡ false
    → any_inner_overlap cs ≡ false → many b (ranges_at t (calls_at_depth d cs)) ≤ many b (sibling_ranges cs)
few_at b t d parent no_calls outside overlapping = omega arith
few_at b t d parent (more_calls site inner others) outside overlapping =
    let p =
    or_parts (any_outside parent site.ranges || any_call_outside site.ranges inner) (any_call_outside parent others)
    outside in
    let q = or_parts (any_outside parent site.ranges) (any_call_outside site.ranges inner) p.0 in
    let r =
    or_parts (any_overlap (sibling_ranges inner) || any_inner_overlap inner) (any_inner_overlap others)
    overlapping in
    let s = or_parts (any_overlap (sibling_ranges inner)) (any_inner_overlap inner) r.0 in
    let below : many b (ranges_at t (calls_at_depth (d + 1) inner)) ≤ many b (sibling_ranges inner) =
    few_at b t (d + 1) site.ranges inner q.1 s.1 in
    let held : many b (sibling_ranges inner) ≤ many b site.ranges =
    no_more b site.ranges (sibling_ranges inner) (siblings_inside site.ranges inner q.1) s.0 in
    let after : many b (ranges_at t (calls_at_depth d others)) ≤ many b (sibling_ranges others) =
    few_at b t d parent others p.1 r.1 in
    let all = many-append b site.ranges (sibling_ranges others) in
    let parts = ap (many b) (ranges_of_all t d site inner others) in
    by_case (d == t) refl below held after all parts
  where
    by_case : (c : Bool) → (d == t) ≡ c → many b (ranges_at t (calls_at_depth (d + 1) inner))
        ≤ many b (sibling_ranges inner) → many b (sibling_ranges inner) ≤ many b site.ranges
        → many b (ranges_at t (calls_at_depth d others)) ≤ many b (sibling_ranges others)
        → many b (site.ranges ++ sibling_ranges others) ≡ many b site.ranges + many b (sibling_ranges others)
        → many b (ranges_at t (calls_at_depth d (more_calls site inner others)))
        ≡ many b (cond (d == t) site.ranges []
        ++ (ranges_at t (calls_at_depth (d + 1) inner) ++ ranges_at t (calls_at_depth d others)))
        → many b (ranges_at t (calls_at_depth d (more_calls site inner others)))
        ≤ many b (site.ranges ++ sibling_ranges others)
    by_case true e below held after all parts =
        let none : ranges_at t (calls_at_depth (d + 1) inner) ≡ [] =
        none_above t (d + 1) inner (let same = eqb-true d t e in omega (arith, same)) in
        let here =
        parts ∙ ap (λ c. many b (cond c site.ranges []
        ++ (ranges_at t (calls_at_depth (d + 1) inner) ++ ranges_at t (calls_at_depth d others)))) e
        ∙ ap (λ l. many b (site.ranges ++ (l ++ ranges_at t (calls_at_depth d others)))) none
        ∙ many-append b site.ranges (ranges_at t (calls_at_depth d others)) in
        omega (arith, here, after, all)
    by_case false e below held after all parts =
        let here =
        parts ∙ ap (λ c. many b (cond c site.ranges []
        ++ (ranges_at t (calls_at_depth (d + 1) inner) ++ ranges_at t (calls_at_depth d others)))) e
        ∙ many-append b (ranges_at t (calls_at_depth (d + 1) inner)) (ranges_at t (calls_at_depth d others)) in
        omega (arith, here, below, held, after, all)

pub one_at : (b t d : ℕ) (parent : List RangePart) (cs : Calls) → any_call_outside parent cs ≡ false
    → any_calls_overlap cs ≡ false → many b (ranges_at t (calls_at_depth d cs)) ≤ 1
one_at b t d parent cs outside overlapping =
    let p = or_parts (any_overlap (sibling_ranges cs)) (any_inner_overlap cs) overlapping in
    let one = at_most_one b (sibling_ranges cs) p.0 in
    let few = few_at b t d parent cs outside p.1 in
    omega arith

-- ---- none of their ranges is empty

abbrev pub has_empty : Site → Bool
has_empty s = list_any is_empty_range s.ranges

filled_or_none : (c : Bool) (rs : List RangePart) → list_any is_empty_range rs ≡ false
    → list_any is_empty_range (cond c rs []) ≡ false
filled_or_none true rs h = h
filled_or_none false rs h = refl

pub filled_at : (t d : ℕ) (cs : Calls) → any_call has_empty cs ≡ false
    → list_any is_empty_range (ranges_at t (calls_at_depth d cs)) ≡ false
filled_at t d no_calls h = refl
filled_at t d (more_calls site inner others) h =
    let p = or_parts (has_empty site || any_call has_empty inner) (any_call has_empty others) h in
    let q = or_parts (has_empty site) (any_call has_empty inner) p.0 in
    let here : List RangePart = cond (d == t) site.ranges [] in
    let deep : List RangePart = ranges_at t (calls_at_depth (d + 1) inner) in
    let rest : List RangePart = ranges_at t (calls_at_depth d others) in
    ap (list_any is_empty_range) (ranges_of_all t d site inner others)
    ∙ list_any-append is_empty_range here (deep ++ rest)
    ∙ or_from (list_any is_empty_range here) (list_any is_empty_range (deep ++ rest))
    (filled_or_none (d == t) site.ranges q.0)
    (list_any-append is_empty_range deep rest
    ∙ or_from (list_any is_empty_range deep) (list_any is_empty_range rest) (filled_at t (d + 1) inner q.1)
    (filled_at t d others p.1))

-- ---- the call of a depth that holds an address

abbrev pub holds_at : ℕ → ℕ → CallAtDepth → Bool
holds_at a t p = (p.depth == t) && any_holds a p.site.ranges

abbrev pub is_at : ℕ → CallAtDepth → Bool
is_at t p = p.depth == t

or_none : {A : Type 0} (o : Option A) → option_or o None ≡ o
or_none None = refl
or_none (Some x) = refl

abbrev pub at_depth : ℕ → Site → CallAtDepth
at_depth d site = record { depth = d; site = site }

abbrev nested_at : ℕ → ℕ → List Site → Option CallAtDepth
nested_at t d ss = find (is_at t) (nested_calls d ss)

-- it is the one of the table's chain
pub holder_at : (a t d : ℕ) (parent : List RangePart) (cs : Calls) → any_call_outside parent cs ≡ false
    → any_calls_overlap cs ≡ false → find (holds_at a t) (calls_at_depth d cs)
    ≡ find (is_at t) (nested_calls d (chain a cs))
holder_at a t d parent no_calls outside overlapping = refl
holder_at a t d parent (more_calls site inner others) outside overlapping =
    let p =
    or_parts (any_outside parent site.ranges || any_call_outside site.ranges inner) (any_call_outside parent others)
    outside in
    let q = or_parts (any_outside parent site.ranges) (any_call_outside site.ranges inner) p.0 in
    let o =
    or_parts (any_overlap (site.ranges ++ sibling_ranges others)) (any_inner_overlap (more_calls site inner others))
    overlapping in
    let r = or_parts (any_overlap (sibling_ranges inner) || any_inner_overlap inner) (any_inner_overlap others) o.1 in
    let after =
    or_from (any_overlap (sibling_ranges others)) (any_inner_overlap others)
    (rest_apart site.ranges (sibling_ranges others) o.0) r.1 in
    ap (λ o. cond (holds_at a t (at_depth d site)) (Some (at_depth d site)) o)
    (find-append (holds_at a t) (calls_at_depth (d + 1) inner) (calls_at_depth d others)
    ∙ ap (λ o. option_or o (find (holds_at a t) (calls_at_depth d others)))
    (holder_at a t (d + 1) site.ranges inner q.1 r.0)
    ∙ ap (λ o. option_or (find (is_at t) (nested_calls (d + 1) (chain a inner))) o)
    (holder_at a t d parent others p.1 after))
    ∙ by_case (any_holds a site.ranges) refl
    (λ held. chain_ends a others (not_in_rest a site.ranges (sibling_ranges others) o.0 held))
    (λ none. chain_ends a inner
    (others_hold_none a site.ranges (sibling_ranges inner) (siblings_inside site.ranges inner q.1) none))
  where
    if_at : (c : Bool) → cond (c && true) (Some (at_depth d site)) (nested_at t (d + 1) (chain a inner))
        ≡ cond c (Some (at_depth d site)) (nested_at t (d + 1) (chain a inner))
    if_at true = refl
    if_at false = refl

    if_not : (c : Bool) (o : Option CallAtDepth) → cond (c && false) (Some (at_depth d site)) o ≡ o
    if_not true o = refl
    if_not false o = refl

    by_case : (c : Bool) → any_holds a site.ranges ≡ c → (any_holds a site.ranges ≡ true → chain a others ≡ [])
        → (any_holds a site.ranges ≡ false → chain a inner ≡ [])
        → cond ((d == t) && any_holds a site.ranges) (Some (at_depth d site))
        (option_or (nested_at t (d + 1) (chain a inner)) (nested_at t d (chain a others)))
        ≡ nested_at t d (cond (any_holds a site.ranges) (site ∷ chain a inner) (chain a others))
    by_case true e none_later none_below =
        ap (λ c. cond ((d == t) && c) (Some (at_depth d site))
        (option_or (nested_at t (d + 1) (chain a inner)) (nested_at t d (chain a others)))) e
        ∙ ap (λ ss. cond ((d == t) && true) (Some (at_depth d site))
        (option_or (nested_at t (d + 1) (chain a inner)) (nested_at t d ss))) (none_later e)
        ∙ ap (λ o. cond ((d == t) && true) (Some (at_depth d site)) o) (or_none (nested_at t (d + 1) (chain a inner)))
        ∙ if_at (d == t)
        ∙ sym (ap (λ c. nested_at t d (cond c (site ∷ chain a inner) (chain a others))) e)
    by_case false e none_later none_below =
        ap (λ c. cond ((d == t) && c) (Some (at_depth d site))
        (option_or (nested_at t (d + 1) (chain a inner)) (nested_at t d (chain a others)))) e
        ∙ if_not (d == t) (option_or (nested_at t (d + 1) (chain a inner)) (nested_at t d (chain a others)))
        ∙ ap (λ ss. option_or (nested_at t (d + 1) ss) (nested_at t d (chain a others))) (none_below e)
        ∙ sym (ap (λ c. nested_at t d (cond c (site ∷ chain a inner) (chain a others))) e)
