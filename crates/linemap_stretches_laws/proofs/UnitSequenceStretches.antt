-- The stretches of a unit's sequences between two ends, which ascend, and are all of its stretches that lie between.
use Rattle.std.proofs.Common.{◌≡◌, ℕ, Bool, true, false, cond, ◌==◌, ◌&&◌, nat_lt, List, [], ◌∷◌, ◌++◌, filter, flat_map, refl, sym, ap, subst, ◌∙◌, inl, inr, arith}
use Rattle.std.proofs.lemmas.Bool.{lt-ltb, le-ltb, both_ways, or_from, or_left, and_left, ne_eqb}
use Rattle.std.proofs.lemmas.List.Elements.{filter-append}
use Rattle.linemap_places_laws.specs.Lines.{Sequence, Stretch, range_of, stretches_of, sequence_between, starts_after, reaches, lines_between}
use Rattle.linemap_places_laws.specs.Orders.{in_order}
use Rattle.linemap_stretches_laws.proofs.AlikeStretches.{Each, each_implies, Climbs, stretches_at, first_at}
use Rattle.linemap_stretches_laws.proofs.StretchBlocks.{BeginsIn, GoesBy, AllApart, IsBlock, blocks_climb, blocks_alike}
use Rattle.linemap_stretches_laws.proofs.StretchesBetweenEnds.{is_between, IsWithin, all_within, all_climb, filter_climbs, sequence_is}
use Rattle.linemap_stretches_laws.proofs.SequenceRowStretches.{IsKept}

-- ---- lists

pub flat_filter : {X : Type 0} (block : X → List Stretch) (p : X → Bool) (xs : List X)
    → flat_map block (filter p xs) ≡ flat_map (λ x. cond (p x) (block x) []) xs
flat_filter block p [] = refl
flat_filter block p (x ∷ xs) = by_case (p x) (flat_filter block p xs)
  where
    by_case : (b : Bool) → flat_map block (filter p xs) ≡ flat_map (λ x. cond (p x) (block x) []) xs
        → flat_map block (cond b (x ∷ filter p xs) (filter p xs))
        ≡ cond b (block x) [] ++ flat_map (λ x. cond (p x) (block x) []) xs
    by_case true rest = ap (λ l. block x ++ l) rest
    by_case false rest = rest

pub filter_each : {X : Type 0} (P : X → Type 0) (p : X → Bool) (xs : List X) → Each P xs → Each P (filter p xs)
filter_each P p [] all = tt
filter_each P p (x ∷ xs) all = elim (p x) as (λ b. Each P (cond b (x ∷ filter p xs) (filter p xs))) [
  | true ↦ (all.0, filter_each P p xs all.1)
  | false ↦ filter_each P p xs all.1
]

-- what is so of those at each address is so of all
from_each_address : (P : Stretch → Type 0) (ts : List Stretch) → ((a : ℕ) → Each P (stretches_at a ts)) → Each P ts
from_each_address P [] all = tt
from_each_address P (t ∷ ts) all =
    let first : Each P (t ∷ stretches_at t.address ts) = subst (λ l. Each P l) (first_at t ts) (all t.address) in
    (first.0, from_each_address P ts (λ a. later a (t.address == a) (all a)))
  where
    later : (a : ℕ) (b : Bool) → Each P (cond b (t ∷ stretches_at a ts) (stretches_at a ts))
        → Each P (stretches_at a ts)
    later a true h = h.1
    later a false h = h

-- ---- sequences by their starts

by_starts : GoesBy range_of starts_after
by_starts s t (inl before) full_s full_t =
    let lower = le-ltb t.start s.start (omega arith) in
    let other : s.start ≡ t.start → ⊥ = λ e. omega (arith, e) in
    let not_after : starts_after s t ≡ false =
    or_from _ _ lower (and_left (s.start == t.start) (nat_lt t.end s.end) (ne_eqb s.start t.start other)) in
    (λ e. absurd (both_ways (starts_after s t) not_after e), λ e. before)
by_starts s t (inr after) full_s full_t =
    let yes_after : starts_after s t ≡ true =
    or_left (nat_lt t.start s.start) (s.start == t.start && nat_lt t.end s.end)
    (lt-ltb t.start s.start (omega arith)) in
    (λ e. after, λ e. absurd (both_ways (starts_after s t) e yes_after))

-- ---- a unit

module _ (files : List (List ℕ)) (low high : ℕ) where
  -- all stretches of a sequence, and those between the ends
  abbrev all_of : Sequence → List Stretch
  all_of s = stretches_of files s.end s.rows

  abbrev part_of : Sequence → List Stretch
  part_of s = cond (reaches low high s) (sequence_between files low high s) []

  part_is : (s : Sequence) → IsKept s → part_of s ≡ filter (is_between low high) (all_of s)
  part_is s sound = sequence_is files low high s sound.starts sound.rises

  part_block : (s : Sequence) → IsKept s → IsBlock range_of part_of s
  part_block s sound =
      let from = sound.starts in
      let within = all_within files s.start s.end s.rows (omega (arith, from)) sound.rises in
      let inside : Each (BeginsIn (range_of s)) (all_of s) =
      each_implies (IsWithin s.start s.end) (BeginsIn (range_of s)) (all_of s)
      (λ t w. let a = w.0 in let b = w.1 in let c = w.2 in (omega arith, omega arith)) within in
      let whole : Each (BeginsIn (range_of s)) (filter (is_between low high) (all_of s)) =
      filter_each (BeginsIn (range_of s)) (is_between low high) (all_of s) inside in
      let climbs : Climbs 0 (filter (is_between low high) (all_of s)) =
      filter_climbs (is_between low high) 0 (all_of s) (all_climb files 0 s.end s.rows (omega arith) sound.rises) in
      let same = sym (part_is s sound) in
      (sound.full, subst (λ l. Each (BeginsIn (range_of s)) l) same whole, subst (λ l. Climbs 0 l) same climbs)

  parts_are : (ss : List Sequence) → Each IsKept ss
      → flat_map part_of ss ≡ filter (is_between low high) (flat_map (λ s. stretches_of files s.end s.rows) ss)
  parts_are [] sound = refl
  parts_are (s ∷ ss) sound =
      ap (λ l. l ++ flat_map part_of ss) (part_is s sound.0)
      ∙ ap (λ l. filter (is_between low high) (all_of s) ++ l) (parts_are ss sound.1)
      ∙ sym (filter-append (is_between low high) (all_of s) (flat_map (λ s. stretches_of files s.end s.rows) ss))

  part_blocks : (ss : List Sequence) → Each IsKept ss → Each (IsBlock range_of part_of) ss
  part_blocks ss sound = each_implies IsKept (IsBlock range_of part_of) ss part_block sound

  pub lines_climb : (ss : List Sequence) → Each IsKept ss → AllApart range_of ss
      → Climbs 0 (lines_between (record { sequences = ss; files = files }) low high)
  lines_climb ss sound apart =
      subst (λ l. Climbs 0 l)
      (sym (flat_filter (sequence_between files low high) (reaches low high) (in_order starts_after ss)))
      (blocks_climb range_of starts_after part_of by_starts ss apart (part_blocks ss sound))

  pub lines_alike : (a : ℕ) (ss : List Sequence) → Each IsKept ss → AllApart range_of ss
      → stretches_at a (lines_between (record { sequences = ss; files = files }) low high)
      ≡ stretches_at a (filter (is_between low high) (flat_map (λ s. stretches_of files s.end s.rows) ss))
  lines_alike a ss sound apart =
      ap (stretches_at a) (flat_filter (sequence_between files low high) (reaches low high) (in_order starts_after ss))
      ∙ blocks_alike range_of starts_after part_of a ss apart (part_blocks ss sound)
      ∙ ap (stretches_at a) (parts_are ss sound)

  -- what is so of each stretch between is so of each of these
  pub lines_each : (P : Stretch → Type 0) (ss : List Sequence) → Each IsKept ss → AllApart range_of ss
      → Each P (filter (is_between low high) (flat_map (λ s. stretches_of files s.end s.rows) ss))
      → Each P (lines_between (record { sequences = ss; files = files }) low high)
  lines_each P ss sound apart all =
      from_each_address P (lines_between (record { sequences = ss; files = files }) low high)
      (λ a. subst (λ l. Each P l) (sym (lines_alike a ss sound apart))
      (filter_each P (λ t. t.address == a)
      (filter (is_between low high) (flat_map (λ s. stretches_of files s.end s.rows) ss)) all))
