-- The calls of an address among those that were agrees are, one by one, the table's.
use Rattle.std.proofs.Common.{◌≡◌, ℕ, ◌+◌, ◌≤◌, Bool, true, false, cond, ◌==◌, ◌&&◌, ◌||◌, List, [], ◌∷◌, ◌++◌, map, find, Option, Some, None, Contains, MatchOption, refl, sym, ap, subst, ◌∙◌, arith}
use Rattle.std.specs.List.{list_any}
use Rattle.std.proofs.lemmas.Bool.{or_parts, eq-eqb, ne_eqb}
use Rattle.std.proofs.lemmas.List.{map-append}
use Rattle.linemap_places_laws.specs.Choice.{holds}
use Rattle.linemap_places_laws.specs.LookupLaws.{are_apart}
use Rattle.linemap_places_laws.specs.InlinedCalls.{Call, ranges_of_call, call_at_depth, chain_from, chain_at}
use Rattle.linemap_places_laws.proofs.CallChains.{chain_step}
use Rattle.linemap_places_laws.specs.TableParts.{RangePart, Site, Calls, FunctionPart, UnitPart}
use Rattle.linemap_places_laws.specs.Conditions.{IsSound, any_call, any_call_outside, any_calls_overlap, is_empty_range, has_empty_range, has_call_outside, has_calls_overlap}
use Rattle.linemap_places_laws.specs.Meaning as table
use Rattle.linemap_places_laws.specs.Rule.TheVariants.{EmptyRange, CallOutside, CallsOverlap}
use Rattle.linemap_places_laws.proofs.SoundUnits.{sound_rule, none_passes}
use Rattle.linemap_places_laws.specs.LookupAgreement.{lookup_range}
use Rattle.linemap_frames_laws.specs.CallAgreement.{OneByOne, Likewise, CallAtDepth, calls_at_depth, nested_calls, CallAgrees, CallsAgree, ChainAgrees}
use Rattle.linemap_frames_laws.proofs.RangeCounts.{apart_by_count}
use Rattle.linemap_frames_laws.proofs.RangeOwners.{ranges_among, first_owner, find_likewise}
use Rattle.linemap_frames_laws.proofs.CallDepths.{ranges_at, one_at, has_empty, filled_at, holds_at, is_at, at_depth, holder_at}

-- ---- what was agrees of ranges

pub held_ranges_agree : (a : ℕ) (rs : List RangePart) → list_any (holds a) (map lookup_range rs) ≡ table.any_holds a rs
held_ranges_agree a [] = refl
held_ranges_agree a (r ∷ rs) = ap (λ b. table.holds a r || b) (held_ranges_agree a rs)

-- what is known of calls
pub record SoundCalls (cs : Calls) : Type 0 where
  pub parent : List RangePart
  pub not_empty : any_call has_empty cs ≡ false
  pub inside : any_call_outside parent cs ≡ false
  pub apart : any_calls_overlap cs ≡ false

module _ (number : ℕ → ℕ) (a : ℕ) where
  abbrev is_of : ℕ → Call → Bool
  is_of t c = c.depth == t

  agrees_if : (b : Bool) (rs : List RangePart) → cond b (map lookup_range rs) [] ≡ map lookup_range (cond b rs [])
  agrees_if true rs = refl
  agrees_if false rs = refl

  ranges_agree : (t : ℕ) (ps : List CallAtDepth) (cs : List Call) → OneByOne (CallAgrees number) ps cs
      → ranges_among ranges_of_call (is_of t) cs ≡ map lookup_range (ranges_at t ps)
  ranges_agree t [] [] agrees = refl
  ranges_agree t [] (c ∷ cs) agrees = absurd agrees
  ranges_agree t (p ∷ ps) [] agrees = absurd agrees
  ranges_agree t (p ∷ ps) (c ∷ cs) agrees =
      ap (λ (d : ℕ). cond (d == t) c.ranges [] ++ ranges_among ranges_of_call (is_of t) cs) agrees.0.depth_is
      ∙ ap (λ rs. cond (p.depth == t) rs [] ++ ranges_among ranges_of_call (is_of t) cs) agrees.0.ranges_agree
      ∙ ap (λ l. l ++ ranges_among ranges_of_call (is_of t) cs) (agrees_if (p.depth == t) p.site.ranges)
      ∙ ap (λ l. map lookup_range (cond (p.depth == t) p.site.ranges []) ++ l) (ranges_agree t ps cs agrees.1)
      ∙ sym (map-append lookup_range (cond (p.depth == t) p.site.ranges []) (ranges_at t ps))

  holds_alike : (t : ℕ) (p : CallAtDepth) (c : Call) → CallAgrees number p c
      → holds_at a t p ≡ (is_of t c && list_any (holds a) (ranges_of_call c))
  holds_alike t p c agrees =
      sym (ap (λ (d : ℕ). (d == t) && list_any (holds a) c.ranges) agrees.depth_is
      ∙ ap (λ rs. (p.depth == t) && list_any (holds a) rs) agrees.ranges_agree
      ∙ ap (λ b. (p.depth == t) && b) (held_ranges_agree a p.site.ranges))

  -- ---- the call of a depth

  holding_agrees : (t : ℕ) (cs : Calls) (flat : List Call) → SoundCalls cs → CallsAgree number 0 cs flat
      → Likewise (CallAgrees number) (find (is_at t) (nested_calls 0 (table.chain a cs))) (call_at_depth flat a t)
  holding_agrees t cs flat known agrees =
      let apart : are_apart (ranges_among ranges_of_call (is_of t) flat) ≡ true =
      ap are_apart (ranges_agree t (calls_at_depth 0 cs) flat agrees)
      ∙ apart_by_count (ranges_at t (calls_at_depth 0 cs)) (filled_at t 0 cs known.not_empty)
      (λ b. one_at b t 0 known.parent cs known.inside known.apart) in
      let R = CallAgrees number in
      let found =
      find_likewise R (holds_at a t) (λ c. is_of t c && list_any (holds a) (ranges_of_call c)) (holds_alike t)
      (calls_at_depth 0 cs) flat agrees in
      let P : Option CallAtDepth → Type 0 =
      λ o. Likewise R o (find (λ c. is_of t c && list_any (holds a) (ranges_of_call c)) flat) in
      let Q : Option Call → Type 0 = λ o. Likewise R (find (is_at t) (nested_calls 0 (table.chain a cs))) o in
      subst Q (sym (first_owner ranges_of_call (is_of t) a flat apart))
      (subst P (holder_at a t 0 known.parent cs known.inside known.apart) found)

  -- ---- one after the other

  abbrev Goes : List Call → ℕ → List Call → Option Call → Type 0
  Goes flat d made o = MatchOption o (made ≡ []) (λ c. made ≡ c ∷ chain_from flat a (d + 1))

  chain_agrees : (flat : List Call) (d : ℕ) (ss : List Site)
      → ((t : ℕ) → d ≤ t → Likewise (CallAgrees number) (find (is_at t) (nested_calls d ss)) (call_at_depth flat a t))
      → OneByOne (CallAgrees number) (nested_calls d ss) (chain_from flat a d)
  chain_agrees flat d [] each = by_case (call_at_depth flat a d) (each d (omega arith)) (chain_step flat a d)
    where
      by_case : (o : Option Call) → Likewise (CallAgrees number) None o → Goes flat d (chain_from flat a d) o
          → OneByOne (CallAgrees number) [] (chain_from flat a d)
      by_case None h goes = let P : List Call → Type 0 = λ l. OneByOne (CallAgrees number) [] l in subst P (sym goes) tt
      by_case (Some c) h goes = absurd h
  chain_agrees flat d (s ∷ ss) each =
      let P : Bool → Type 0 =
      λ b. Likewise (CallAgrees number) (cond b (Some (at_depth d s)) (find (is_at d) (nested_calls (d + 1) ss)))
      (call_at_depth flat a d) in
      by_case (call_at_depth flat a d) (subst P (eq-eqb d d refl) (each d (omega arith))) (chain_step flat a d)
      (chain_agrees flat (d + 1) ss deeper)
    where
      deeper : (t : ℕ) → d + 1 ≤ t
          → Likewise (CallAgrees number) (find (is_at t) (nested_calls (d + 1) ss)) (call_at_depth flat a t)
      deeper t h =
          let P : Bool → Type 0 =
          λ b. Likewise (CallAgrees number)
          (cond b (Some (at_depth d s)) (find (is_at t) (nested_calls (d + 1) ss))) (call_at_depth flat a t) in
          subst P (ne_eqb d t (λ same. omega (arith, same, h))) (each t (omega arith))

      by_case : (o : Option Call) → Likewise (CallAgrees number) (Some (at_depth d s)) o
          → Goes flat d (chain_from flat a d) o
          → OneByOne (CallAgrees number) (nested_calls (d + 1) ss) (chain_from flat a (d + 1))
          → OneByOne (CallAgrees number) (at_depth d s ∷ nested_calls (d + 1) ss) (chain_from flat a d)
      by_case None h goes rest = absurd h
      by_case (Some c) h goes rest = let P : List Call
          → Type 0 = λ l. OneByOne (CallAgrees number) (at_depth d s ∷ nested_calls (d + 1) ss) l in
          subst P (sym goes) (h, rest)

  pub chain_is_agreeing : (cs : Calls) (flat : List Call) → SoundCalls cs → CallsAgree number 0 cs flat
      → ChainAgrees number 0 (table.chain a cs) (chain_at flat a)
  chain_is_agreeing cs flat known agrees =
      chain_agrees flat 0 (table.chain a cs) (λ t _. holding_agrees t cs flat known agrees)

-- ---- a sound table

pub known_calls : (us : List UnitPart) (u : UnitPart) (f : FunctionPart) → IsSound us → Contains us u
    → Contains u.functions f → SoundCalls f.calls
known_calls us u f sound there here =
    let empty =
    or_parts (list_any is_empty_range u.ranges)
    (list_any (λ f. list_any is_empty_range f.ranges || any_call has_empty f.calls) u.functions)
    (none_passes has_empty_range us u (sound_rule us EmptyRange sound) there) in
    let not_empty =
    or_parts (list_any is_empty_range f.ranges) (any_call has_empty f.calls)
    (none_passes (λ (f : FunctionPart). list_any is_empty_range f.ranges || any_call has_empty f.calls) u.functions
    f empty.1 here) in
    record {
      parent = f.ranges;
      not_empty = not_empty.1;
      inside = none_passes (λ (f : FunctionPart). any_call_outside f.ranges f.calls) u.functions f
          (none_passes has_call_outside us u (sound_rule us CallOutside sound) there) here;
      apart = none_passes (λ (f : FunctionPart). any_calls_overlap f.calls) u.functions f
          (none_passes has_calls_overlap us u (sound_rule us CallsOverlap sound) there) here;
    }

pub chains_meet : (number : ℕ → ℕ) (us : List UnitPart) (u : UnitPart) (f : FunctionPart) (flat : List Call) (a : ℕ)
    → IsSound us → Contains us u → Contains u.functions f → CallsAgree number 0 f.calls flat
    → ChainAgrees number 0 (table.chain a f.calls) (chain_at flat a)
chains_meet number us u f flat a sound there here agrees =
    chain_is_agreeing number a f.calls flat (known_calls us u f sound there here) agrees
