-- A sound table fits addresses of 8 bytes.
use Rattle.std.proofs.Common.{◌≡◌, ℕ, ◌-◌, ◌^◌, Bool, true, false, ◌||◌, nat_lt, nat_le, List, [], ◌∷◌, refl, arith}
use Rattle.std.specs.List.{list_any}
use Rattle.std.proofs.lemmas.Bool.{ltb-false, lt-leb, or_parts, or_from, not_from_false}
use Rattle.linemap_meaning.specs.TableParts.{RangePart, RowPart, SequencePart, Site, Calls, no_calls, more_calls, FunctionPart, UnitPart}
use Rattle.linemap_meaning.specs.Conditions.{any_call, any_ranges, is_out_of_bounds, range_out_of_bounds, sequence_out_of_bounds, has_out_of_bounds, IsSound}
use Rattle.linemap_meaning.specs.EncodingFits.{least_tombstone, any_address, fits}
use Rattle.linemap_meaning.specs.declared.rule.Rule.TheVariants.{Bounds}
use Rattle.linemap_meaning.proofs.SoundUnits.{sound_rule}

none_weaker : {X : Type 0} (p q : X → Bool) (xs : List X) → ((x : X) → p x ≡ false → q x ≡ false)
    → list_any p xs ≡ false → list_any q xs ≡ false
none_weaker p q [] w h = refl
none_weaker p q (x ∷ xs) w h =
    let parts = or_parts (p x) (list_any p xs) h in
    or_from (q x) (list_any q xs) (w x parts.0) (none_weaker p q xs w parts.1)

no_call_weaker : (p q : Site → Bool) (cs : Calls) → ((s : Site) → p s ≡ false → q s ≡ false) → any_call p cs ≡ false
    → any_call q cs ≡ false
no_call_weaker p q no_calls w h = refl
no_call_weaker p q (more_calls site inner others) w h =
    let outer = or_parts (p site || any_call p inner) (any_call p others) h in
    let parts = or_parts (p site) (any_call p inner) outer.0 in
    or_from (q site || any_call q inner) (any_call q others)
    (or_from (q site) (any_call q inner) (w site parts.0) (no_call_weaker p q inner w parts.1))
    (no_call_weaker p q others w outer.1)

both_weaker : (p q r s : Bool) → (p ≡ false → r ≡ false) → (q ≡ false → s ≡ false) → (p || q) ≡ false → (r || s) ≡ false
both_weaker p q r s f g h = let parts = or_parts p q h in or_from r s (f parts.0) (g parts.1)

no_ranges_weaker : (p q : List RangePart → Bool) (u : UnitPart) → ((rs : List RangePart) → p rs ≡ false → q rs ≡ false)
    → any_ranges p u ≡ false → any_ranges q u ≡ false
no_ranges_weaker p q u w h =
    let of_function : (List RangePart → Bool) → FunctionPart → Bool =
    λ test f. test f.ranges || any_call (λ s. test s.ranges) f.calls in
    both_weaker (p u.ranges) (list_any (of_function p) u.functions) (q u.ranges) (list_any (of_function q) u.functions)
    (w u.ranges)
    (none_weaker (of_function p) (of_function q) u.functions
    (λ f. both_weaker (p f.ranges) (any_call (λ s. p s.ranges) f.calls) (q f.ranges)
    (any_call (λ s. q s.ranges) f.calls)
    (w f.ranges) (no_call_weaker (λ s. p s.ranges) (λ s. q s.ranges) f.calls (λ s. w s.ranges)))) h

below_tombstone : (a : ℕ) → is_out_of_bounds a ≡ false → nat_le (least_tombstone 8) a ≡ false
below_tombstone a h =
    let le = ltb-false (2 ^ 64 - 3) a (or_parts (nat_lt a 1) (nat_lt (2 ^ 64 - 3) a) h).1 in
    lt-leb (2 ^ 64 - 2) a (omega arith)

no_tombstone : (u : UnitPart) → has_out_of_bounds u ≡ false → any_address (nat_le (least_tombstone 8)) u ≡ false
no_tombstone u =
    let test = nat_le (least_tombstone 8) in
    let range_test : RangePart → Bool = λ r. test r.begin || test r.end in
    let row_test : RowPart → Bool = λ r. test r.address in
    let sequence_test : SequencePart → Bool = λ s. list_any row_test s.rows || test s.end in
    both_weaker (any_ranges (list_any range_out_of_bounds) u) (list_any sequence_out_of_bounds u.sequences)
    (any_ranges (list_any range_test) u) (list_any sequence_test u.sequences)
    (no_ranges_weaker (list_any range_out_of_bounds) (list_any range_test) u
    (λ rs. none_weaker range_out_of_bounds range_test rs
    (λ r. both_weaker (is_out_of_bounds r.begin) (is_out_of_bounds r.end) (test r.begin) (test r.end)
    (below_tombstone r.begin) (below_tombstone r.end))))
    (none_weaker sequence_out_of_bounds sequence_test u.sequences
    (λ s. both_weaker (list_any (λ r. is_out_of_bounds r.address) s.rows) (is_out_of_bounds s.end)
    (list_any row_test s.rows) (test s.end)
    (none_weaker (λ (r : RowPart). is_out_of_bounds r.address) row_test s.rows (λ r. below_tombstone r.address))
    (below_tombstone s.end)))

pub sound_fits_8 : (us : List UnitPart) → IsSound us → fits 8 us ≡ true
sound_fits_8 us sound =
    not_from_false (list_any (any_address (nat_le (least_tombstone 8))) us)
    (none_weaker has_out_of_bounds (any_address (nat_le (least_tombstone 8))) us no_tombstone
    (sound_rule us Bounds sound))
