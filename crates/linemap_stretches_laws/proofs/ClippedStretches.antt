-- One range of a unit: what lies between two ends that are clipped to it is what lies in it between the ends.
use Rattle.std.proofs.Common.{◌≡◌, ℕ, ◌+◌, ◌<◌, ◌≤◌, max, min, Bool, true, false, cond, ◌==◌, ◌&&◌, nat_lt, nat_le, List, [], ◌∷◌, filter, flat_map, refl, sym, ap, ◌∙◌, ◌⊎◌, inl, inr, arith}
use Rattle.std.specs.Cmp.{both_ways}
use Rattle.std.proofs.lemmas.Bool.{lt-ltb, le-leb, ltb-true, leb-true, eqb-true, and_parts, and_from}
use Rattle.linemap_places_laws.specs.Range.{Range}
use Rattle.linemap_places_laws.specs.Choice.{holds}
use Rattle.linemap_places_laws.specs.Lines.{Sequence, Stretch, range_of, stretches_of, lines_between}
use Rattle.linemap_places_laws.specs.Pairs.{overlaps}
use Rattle.linemap_stretches_laws.proofs.AlikeStretches.{Each, each_implies, none_pass, same_pass, Climbs, stretches_at}
use Rattle.linemap_stretches_laws.proofs.StretchBlocks.{BeginsIn, AllApart}
use Rattle.linemap_stretches_laws.proofs.StretchesBetweenEnds.{is_between, both_filters}
use Rattle.linemap_stretches_laws.proofs.SequenceRowStretches.{IsKept}
use Rattle.linemap_stretches_laws.proofs.UnitSequenceStretches.{lines_climb, lines_alike, lines_each}

abbrev pub IsInside : Range → Stretch → Type 0
IsInside r t = (r.begin ≤ t.address) × (t.address + t.length ≤ r.end)

-- it isn't empty, and lies in the range or apart from it
abbrev pub IsPlaced : Range → Stretch → Type 0
IsPlaced r t = (0 < t.length) × (IsInside r t ⊎ ((t.address + t.length ≤ r.begin) ⊎ (r.end ≤ t.address)))

-- ---- one stretch

module _ (low high : ℕ) (r : Range) where
  abbrev pub is_clipped_between : Stretch → Bool
  is_clipped_between t = is_between (max low r.begin) (min high r.end) t

  -- one that lies between the clipped ends begins in the range
  between_begins : (t : Stretch) → IsPlaced r t → is_clipped_between t ≡ true → BeginsIn r t
  between_begins t (some, inl inside) h =
      let parts = and_parts (nat_lt t.address (min high r.end)) (nat_lt (max low r.begin) (t.address + t.length)) h in
      let below = ltb-true t.address (min high r.end) parts.0 in
      (inside.0, omega (arith, below))
  between_begins t (some, inr (inl before)) h =
      let parts = and_parts (nat_lt t.address (min high r.end)) (nat_lt (max low r.begin) (t.address + t.length)) h in
      let above = ltb-true (max low r.begin) (t.address + t.length) parts.1 in
      absurd (omega (arith, above, before))
  between_begins t (some, inr (inr after)) h =
      let parts = and_parts (nat_lt t.address (min high r.end)) (nat_lt (max low r.begin) (t.address + t.length)) h in
      let below = ltb-true t.address (min high r.end) parts.0 in
      absurd (omega (arith, below, after))

  clipped_between : (t : Stretch) → is_clipped_between t ≡ true → is_between low high t ≡ true
  clipped_between t h =
      let parts = and_parts (nat_lt t.address (min high r.end)) (nat_lt (max low r.begin) (t.address + t.length)) h in
      let below = ltb-true t.address (min high r.end) parts.0 in
      let above = ltb-true (max low r.begin) (t.address + t.length) parts.1 in
      and_from _ _ (lt-ltb t.address high (omega (arith, below)))
      (lt-ltb low (t.address + t.length) (omega (arith, above)))

  -- one that lies between the ends, and begins in the range, lies between the clipped ends, and the range overlaps them
  between_clipped : (t : Stretch) → IsPlaced r t → BeginsIn r t → is_between low high t ≡ true
      → (overlaps low high r ≡ true) × (is_clipped_between t ≡ true)
  between_clipped t (some, inl inside) begins h =
      let parts = and_parts (nat_lt t.address high) (nat_lt low (t.address + t.length)) h in
      let below = ltb-true t.address high parts.0 in
      let above = ltb-true low (t.address + t.length) parts.1 in
      let from = inside.0 in
      let to = inside.1 in
      let under = begins.1 in (
        and_from _ _ (lt-ltb low r.end (omega (arith, above, to))) (lt-ltb r.begin high (omega (arith, below, from))),
        and_from _ _ (lt-ltb t.address (min high r.end) (omega (arith, below, under)))
            (lt-ltb (max low r.begin) (t.address + t.length) (omega (arith, above, from, some))),
      )
  between_clipped t (some, inr (inl before)) begins h =
      let from = begins.0 in absurd (omega (arith, before, from, some))
  between_clipped t (some, inr (inr after)) begins h = let to = begins.1 in absurd (omega (arith, after, to))

  one_stretch : (a : ℕ) (t : Stretch) → IsPlaced r t → (overlaps low high r && (t.address == a && is_clipped_between t))
      ≡ (holds a r && (t.address == a && is_between low high t))
  one_stretch a t placed =
      both_ways (overlaps low high r && (t.address == a && is_clipped_between t))
      (holds a r && (t.address == a && is_between low high t))
      (λ h.
      let parts = and_parts (overlaps low high r) (t.address == a && is_clipped_between t) h in
      let both = and_parts (t.address == a) (is_clipped_between t) parts.1 in
      let same = eqb-true t.address a both.0 in
      let begins = between_begins t placed both.1 in
      let from = begins.0 in
      let to = begins.1 in
      and_from _ _ (and_from _ _ (le-leb r.begin a (omega (arith, same, from)))
      (lt-ltb a r.end (omega (arith, same, to)))) (and_from _ _ both.0 (clipped_between t both.1)))
      (λ h.
      let parts = and_parts (holds a r) (t.address == a && is_between low high t) h in
      let both = and_parts (t.address == a) (is_between low high t) parts.1 in
      let held = and_parts (nat_le r.begin a) (nat_lt a r.end) parts.0 in
      let same = eqb-true t.address a both.0 in
      let from = leb-true r.begin a held.0 in
      let to = ltb-true a r.end held.1 in
      let all = between_clipped t placed (omega (arith, same, from), omega (arith, same, to)) both.1 in
      and_from _ _ all.0 (and_from _ _ both.0 all.1))

  -- ---- all of them

  filter_if : (b : Bool) (p : Stretch → Bool) (ts : List Stretch) → cond b (filter p ts) [] ≡ filter (λ t. b && p t) ts
  filter_if true p ts = refl
  filter_if false p ts = sym (none_pass (λ t. false && p t) ts (none ts))
    where
      none : (ts : List Stretch) → Each (λ t. (false && p t) ≡ false) ts
      none [] = tt
      none (t ∷ ts) = (refl, none ts)

  at_if : (a : ℕ) (b : Bool) (ts : List Stretch) → stretches_at a (cond b ts []) ≡ cond b (stretches_at a ts) []
  at_if a true ts = refl
  at_if a false ts = refl

  abbrev all_of : List (List ℕ) → List Sequence → List Stretch
  all_of files ss = flat_map (λ s. stretches_of files s.end s.rows) ss

  -- what the range adds
  abbrev added_stretches : List (List ℕ) → List Sequence → List Stretch
  added_stretches files ss =
      cond (overlaps low high r)
      (lines_between (record { sequences = ss; files = files }) (max low r.begin) (min high r.end)) []

  pub added_alike : (a : ℕ) (files : List (List ℕ)) (ss : List Sequence) → Each IsKept ss → AllApart range_of ss
      → Each (IsPlaced r) (all_of files ss)
      → stretches_at a (added_stretches files ss)
      ≡ cond (holds a r) (stretches_at a (filter (is_between low high) (all_of files ss))) []
  added_alike a files ss sound apart placed =
      at_if a (overlaps low high r)
      (lines_between (record { sequences = ss; files = files }) (max low r.begin) (min high r.end))
      ∙ ap (λ l. cond (overlaps low high r) l []) (lines_alike files (max low r.begin) (min high r.end) a ss sound apart
      ∙ both_filters (λ t. t.address == a) is_clipped_between (all_of files ss))
      ∙ filter_if (overlaps low high r) (λ t. t.address == a && is_clipped_between t) (all_of files ss)
      ∙ same_pass (λ t. overlaps low high r && (t.address == a && is_clipped_between t))
      (λ t. holds a r && (t.address == a && is_between low high t)) (all_of files ss)
      (each_implies (IsPlaced r) (λ t. (overlaps low high r && (t.address == a && is_clipped_between t))
      ≡ (holds a r && (t.address == a && is_between low high t))) (all_of files ss) (one_stretch a) placed)
      ∙ sym (ap (λ l. cond (holds a r) l [])
      (both_filters (λ t. t.address == a) (is_between low high) (all_of files ss))
      ∙ filter_if (holds a r) (λ t. t.address == a && is_between low high t) (all_of files ss))

  begins_of_placed : (ts : List Stretch) → Each (IsPlaced r) ts → Each (BeginsIn r) (filter is_clipped_between ts)
  begins_of_placed [] placed = tt
  begins_of_placed (t ∷ ts) placed =
      elim (is_clipped_between t) as (λ b. is_clipped_between t ≡ b
      → Each (BeginsIn r) (cond b (t ∷ filter is_clipped_between ts) (filter is_clipped_between ts))) [
        | true ↦ λ e. (between_begins t placed.0 e, begins_of_placed ts placed.1)
        | false ↦ λ e. begins_of_placed ts placed.1
      ] refl

  pub added_begins : (files : List (List ℕ)) (ss : List Sequence) → Each IsKept ss → AllApart range_of ss
      → Each (IsPlaced r) (all_of files ss) → Each (BeginsIn r) (added_stretches files ss)
  added_begins files ss sound apart placed =
      elim (overlaps low high r)
      as (λ b. Each (BeginsIn r)
      (cond b (lines_between (record { sequences = ss; files = files }) (max low r.begin) (min high r.end)) [])) [
        | true ↦ lines_each files (max low r.begin) (min high r.end) (BeginsIn r) ss sound apart
            (begins_of_placed (all_of files ss) placed)
        | false ↦ tt
      ]

  pub added_climbs : (files : List (List ℕ)) (ss : List Sequence) → Each IsKept ss → AllApart range_of ss
      → Climbs 0 (added_stretches files ss)
  added_climbs files ss sound apart =
      elim (overlaps low high r)
      as (λ b. Climbs 0
      (cond b (lines_between (record { sequences = ss; files = files }) (max low r.begin) (min high r.end)) [])) [
        | true ↦ lines_climb files (max low r.begin) (min high r.end) ss sound apart
        | false ↦ tt
      ]
