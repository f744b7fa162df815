-- The chain of calls is the one way down through calls that hold an address.
use Rattle.std.proofs.Common.{◌≡◌, ℕ, true, false, cond, ◌||◌, List, [], ◌∷◌, refl, sym, ap, ◌∙◌, inl, inr}
use Rattle.std.proofs.lemmas.Bool.{both_ways, or_parts, or_from, or_left, or_right}
use Rattle.std.proofs.lemmas.List.Folds.{list_any-append}
use Rattle.linemap_meaning.specs.TableParts.{Site, Calls, no_calls, more_calls, CallPart}
use Rattle.linemap_meaning.specs.Conditions.{any_overlap, sibling_ranges, any_inner_overlap, any_calls_overlap}
use Rattle.linemap_meaning.specs.Meaning.{holds, any_holds, chain}
use Rattle.linemap_meaning.specs.ChainLaws.{IsAmong, IsWayDown}
use Rattle.linemap_meaning.proofs.TableRangeHolders.{rest_apart, not_in_rest}

-- a way through the others is one through all
wider : (a : ℕ) (site : Site) (inner others : Calls) (ss : List Site) → any_holds a site.ranges ≡ false
    → IsWayDown a others ss → IsWayDown a (more_calls site inner others) ss
wider a site inner others [] none h =
    list_any-append (holds a) site.ranges (sibling_ranges others)
    ∙ or_from (any_holds a site.ranges) (any_holds a (sibling_ranges others)) none h
wider a site inner others (s ∷ ss) none h = (h.0, inr h.1, h.2, h.3, h.4)

pub chain_goes_down : (a : ℕ) (cs : Calls) → IsWayDown a cs (chain a cs)
chain_goes_down a no_calls = refl
chain_goes_down a (more_calls site inner others) =
    elim (any_holds a site.ranges) as (λ b. any_holds a site.ranges ≡ b
    → IsWayDown a (more_calls site inner others) (cond b (site ∷ chain a inner) (chain a others))) [
      | true ↦ λ e. (record { site = site; inner = inner }, inl refl, refl, e, chain_goes_down a inner)
      | false ↦ λ e. wider a site inner others (chain a others) e (chain_goes_down a others)
    ] refl

-- one of a list that holds the address is what its ranges hold it by
among_held : (a : ℕ) (c : CallPart) (cs : Calls) → IsAmong c cs → any_holds a c.site.ranges ≡ true
    → any_holds a (sibling_ranges cs) ≡ true
among_held a c no_calls h k = absurd h
among_held a c (more_calls site inner others) (inl e) k =
    list_any-append (holds a) site.ranges (sibling_ranges others)
    ∙ or_left (any_holds a site.ranges) (any_holds a (sibling_ranges others))
    (ap (λ (d : CallPart). any_holds a d.site.ranges) (sym e) ∙ k)
among_held a c (more_calls site inner others) (inr m) k =
    list_any-append (holds a) site.ranges (sibling_ranges others)
    ∙ or_right (any_holds a site.ranges) (any_holds a (sibling_ranges others)) (among_held a c others m k)

-- the chain goes by the one that holds the address
chain_by : (a : ℕ) (c : CallPart) (cs : Calls) → any_overlap (sibling_ranges cs) ≡ false → IsAmong c cs
    → any_holds a c.site.ranges ≡ true → chain a cs ≡ (c.site ∷ chain a c.inner)
chain_by a c no_calls apart h k = absurd h
chain_by a c (more_calls site inner others) apart (inl e) k =
    ap (λ b. cond b (site ∷ chain a inner) (chain a others))
    (ap (λ (d : CallPart). any_holds a d.site.ranges) (sym e) ∙ k)
    ∙ ap (λ (d : CallPart). d.site ∷ chain a d.inner) (sym e)
chain_by a c (more_calls site inner others) apart (inr m) k =
    elim (any_holds a site.ranges) as (λ b. any_holds a site.ranges ≡ b
    → cond b (site ∷ chain a inner) (chain a others) ≡ (c.site ∷ chain a c.inner)) [
      | true ↦ λ e. absurd
          (both_ways (any_holds a (sibling_ranges others)) (not_in_rest a site.ranges (sibling_ranges others) apart e)
          (among_held a c others m k))
      | false ↦ λ _. chain_by a c others (rest_apart site.ranges (sibling_ranges others) apart) m k
    ] refl

inner_apart : (c : CallPart) (cs : Calls) → any_inner_overlap cs ≡ false → IsAmong c cs
    → any_calls_overlap c.inner ≡ false
inner_apart c no_calls h m = absurd m
inner_apart c (more_calls site inner others) h (inl e) =
    let p = or_parts (any_overlap (sibling_ranges inner) || any_inner_overlap inner) (any_inner_overlap others) h in
    ap (λ (d : CallPart). any_calls_overlap d.inner) e ∙ p.0
inner_apart c (more_calls site inner others) h (inr m) =
    inner_apart c others
    (or_parts (any_overlap (sibling_ranges inner) || any_inner_overlap inner) (any_inner_overlap others) h).1 m

-- where no call of a list holds the address, the chain ends
pub chain_ends : (a : ℕ) (cs : Calls) → any_holds a (sibling_ranges cs) ≡ false → chain a cs ≡ []
chain_ends a no_calls h = refl
chain_ends a (more_calls site inner others) h =
    let p =
    or_parts (any_holds a site.ranges) (any_holds a (sibling_ranges others))
    (sym (list_any-append (holds a) site.ranges (sibling_ranges others)) ∙ h) in
    ap (λ b. cond b (site ∷ chain a inner) (chain a others)) p.0 ∙ chain_ends a others p.1

pub one_way_down : (a : ℕ) (cs : Calls) (ss : List Site) → any_calls_overlap cs ≡ false → IsWayDown a cs ss
    → ss ≡ chain a cs
one_way_down a cs [] apart way = sym (chain_ends a cs way)
one_way_down a cs (s ∷ ss) apart way =
    let p = or_parts (any_overlap (sibling_ranges cs)) (any_inner_overlap cs) apart in
    let c = way.0 in
    let h : any_holds a c.site.ranges ≡ true = ap (λ (t : Site). any_holds a t.ranges) way.2 ∙ way.3 in
    ap (λ t. t ∷ ss) (sym way.2) ∙ ap (λ ts. c.site ∷ ts) (one_way_down a c.inner ss (inner_apart c cs p.1 way.1) way.4)
    ∙ sym (chain_by a c cs p.0 way.1 h)
