-- What lookups answer between two ends over the units of a sound table is what the table means.
use Rattle.std.proofs.Common.{◌≡◌, ℕ, ◌+◌, max, min, Bool, true, false, cond, ◌==◌, ◌||◌, nat_le, List, [], ◌∷◌, ◌++◌, map, filter, flat_map, append-nil, Result, Ok, Err, refl, sym, ap, subst, ◌∙◌, inl, inr, arith}
use Rattle.std.specs.List.{list_any}
use Rattle.std.proofs.lemmas.Bool.{lt-ltb, le-ltb, leb-true, leb-false, eqb-true, and_parts, or_parts, or_from, both_ways}
use Rattle.std.proofs.lemmas.Grind.{flat_map-append}
use Rattle.std.proofs.lemmas.List.{map-append}
use Rattle.std.proofs.lemmas.List.Elements.{filter-append}
use Rattle.std.proofs.lemmas.List.Folds.{list_any-append}
use Rattle.linemap_places_laws.specs.Error.{Error}
use Rattle.linemap_places_laws.specs.Repetition.{no_items, prepend}
use Rattle.linemap_places_laws.specs.Range.{Range}
use Rattle.linemap_places_laws.specs.Choice.{holds}
use Rattle.linemap_places_laws.specs.Lines.{Lines, Stretch, sequences_of_rows, stretches_of, lines_between}
use Rattle.linemap_places_laws.specs.Pairs.{Pair, pairs_of, pairs_from, ends_after, all_pairs, overlaps, overlapping_pairs}
use Rattle.linemap_places_laws.specs.PlaceLookups.{with_stretches, stretches_of_pairs, stretches_between}
use Rattle.linemap_places_laws.specs.TableParts.{RangePart, UnitPart}
use Rattle.linemap_places_laws.specs.Conditions.{overlap, any_overlap, any_call, is_empty_range, has_empty_range, has_sequences_overlap, has_sequence_outside, has_sequence_with_bad_rows, has_bad_line_or_column, has_bad_file_number, IsSound}
use Rattle.linemap_places_laws.specs.Meaning.{unit_stretches}
use Rattle.linemap_places_laws.specs.Meaning as table
use Rattle.linemap_places_laws.specs.StretchLaws.{ascend_from}
use Rattle.linemap_places_laws.specs.Rule.TheVariants.{EmptyRange, UnitsOverlap, SequenceOutside, SequencesOverlap, Rows, LineOrColumn, FileNumber}
use Rattle.linemap_places_laws.proofs.SoundUnits.{sound_rule}
use Rattle.linemap_places_laws.proofs.StretchOrder.{stretches_ascend}
use Rattle.linemap_places_laws.proofs.TableRangeHolders.{rest_apart}
use Rattle.linemap_places_laws.specs.LookupAgreement.{lookup_range, TableAgrees}
use Rattle.linemap_stretches_laws.specs.LookupStretches.{lookup_stretch}
use Rattle.linemap_stretches_laws.proofs.AlikeStretches.{Each, each_append, Climbs, stretches_at, alike_are_same}
use Rattle.linemap_stretches_laws.proofs.StretchBlocks.{Full, BeginsIn, GoesBy, AllApart, IsBlock, in_order_each, blocks_climb, blocks_alike}
use Rattle.linemap_stretches_laws.proofs.StretchesBetweenEnds.{is_between}
use Rattle.linemap_stretches_laws.proofs.UnitSequenceStretches.{flat_filter, filter_each}
use Rattle.linemap_stretches_laws.proofs.ClippedStretches.{IsPlaced, added_alike, added_begins, added_climbs}
use Rattle.linemap_stretches_laws.proofs.StretchHomes.{all_apart, apart_by_map, IsHoused, placed_in_each, ranges_add, all_held}
use Rattle.linemap_stretches_laws.proofs.UnitStretchFacts.{IsFine, IsKnown, unit_known}

-- ---- the table's own order

-- stretches in the table's order have the same at each address
put_alike : (a : ℕ) (s : table.Stretch) (ts : List table.Stretch)
    → stretches_at a (map lookup_stretch (table.put_in_order s ts)) ≡ stretches_at a (map lookup_stretch (s ∷ ts))
put_alike a s [] = refl
put_alike a s (t ∷ ts) = by_order (nat_le s.address t.address) refl (put_alike a s ts)
  where
    others : List Stretch
    others = stretches_at a (map lookup_stretch ts)

    exchange : (b c : Bool) → (b ≡ true → c ≡ true → ⊥)
        → cond b (lookup_stretch t ∷ cond c (lookup_stretch s ∷ others) others)
        (cond c (lookup_stretch s ∷ others) others)
        ≡ cond c (lookup_stretch s ∷ cond b (lookup_stretch t ∷ others) others)
        (cond b (lookup_stretch t ∷ others) others)
    exchange true true not_both = absurd (not_both refl refl)
    exchange true false not_both = refl
    exchange false true not_both = refl
    exchange false false not_both = refl

    by_order : (b : Bool) → nat_le s.address t.address ≡ b
        → stretches_at a (map lookup_stretch (table.put_in_order s ts)) ≡ stretches_at a (map lookup_stretch (s ∷ ts))
        → stretches_at a (map lookup_stretch (cond b (s ∷ t ∷ ts) (t ∷ table.put_in_order s ts)))
        ≡ stretches_at a (map lookup_stretch (s ∷ t ∷ ts))
    by_order true e rest = refl
    by_order false e rest =
        let above = leb-false s.address t.address e in
        ap (λ l. cond (t.address == a) (lookup_stretch t ∷ l) l) rest
        ∙ exchange (t.address == a) (s.address == a) (λ p q. let first = eqb-true t.address a p in
        let second = eqb-true s.address a q in omega (arith, above, first, second))

order_alike : (a : ℕ) (ss : List table.Stretch)
    → stretches_at a (map lookup_stretch (table.in_order ss)) ≡ stretches_at a (map lookup_stretch ss)
order_alike a [] = refl
order_alike a (s ∷ ss) =
    put_alike a s (table.in_order ss) ∙ ap (λ l. cond (s.address == a) (lookup_stretch s ∷ l) l) (order_alike a ss)

lookups_climb : (low : ℕ) (ss : List table.Stretch) → ascend_from low ss ≡ true → Climbs low (map lookup_stretch ss)
lookups_climb low [] h = tt
lookups_climb low (s ∷ ss) h =
    let parts = and_parts (nat_le low s.address) (ascend_from s.address ss) h in
    (leb-true low s.address parts.0, lookups_climb s.address ss parts.1)

lookups_filter : (low high : ℕ) (ss : List table.Stretch)
    → filter (is_between low high) (map lookup_stretch ss) ≡ map lookup_stretch (filter (table.is_between low high) ss)
lookups_filter low high [] = refl
lookups_filter low high (s ∷ ss) = by_case (table.is_between low high s) (lookups_filter low high ss)
  where
    by_case : (b : Bool) → filter (is_between low high) (map lookup_stretch ss)
        ≡ map lookup_stretch (filter (table.is_between low high) ss)
        → cond b (lookup_stretch s ∷ filter (is_between low high) (map lookup_stretch ss))
        (filter (is_between low high) (map lookup_stretch ss))
        ≡ map lookup_stretch
        (cond b (s ∷ filter (table.is_between low high) ss) (filter (table.is_between low high) ss))
    by_case true rest = ap (λ l. lookup_stretch s ∷ l) rest
    by_case false rest = rest

-- ---- the units of a sound table

apart_first : (rs ss : List RangePart) → any_overlap (rs ++ ss) ≡ false → any_overlap rs ≡ false
apart_first [] ss h = refl
apart_first (r ∷ rs) ss h =
    let parts = or_parts (list_any (overlap r) (rs ++ ss)) (any_overlap (rs ++ ss)) h in
    let here =
    or_parts (list_any (overlap r) rs) (list_any (overlap r) ss)
    (sym (list_any-append (overlap r) rs ss) ∙ parts.0) in
    or_from _ _ here.0 (apart_first rs ss parts.1)

fine_from : (us : List UnitPart) → list_any has_empty_range us ≡ false → any_overlap (flat_map (λ u. u.ranges) us)
    ≡ false → list_any has_sequences_overlap us ≡ false → list_any has_sequence_outside us ≡ false
    → list_any has_sequence_with_bad_rows us ≡ false → list_any has_bad_line_or_column us ≡ false
    → list_any has_bad_file_number us ≡ false → Each IsFine us
fine_from [] full apart sequences inside rows numbers files = tt
fine_from (u ∷ us) full apart sequences inside rows numbers files =
    let full_parts = or_parts (has_empty_range u) (list_any has_empty_range us) full in
    let sequence_parts = or_parts (has_sequences_overlap u) (list_any has_sequences_overlap us) sequences in
    let inside_parts = or_parts (has_sequence_outside u) (list_any has_sequence_outside us) inside in
    let row_parts = or_parts (has_sequence_with_bad_rows u) (list_any has_sequence_with_bad_rows us) rows in
    let number_parts = or_parts (has_bad_line_or_column u) (list_any has_bad_line_or_column us) numbers in
    let file_parts = or_parts (has_bad_file_number u) (list_any has_bad_file_number us) files in (
      record {
        full = (or_parts (list_any is_empty_range u.ranges)
            (list_any (λ f. list_any is_empty_range f.ranges
            || any_call (λ s. list_any is_empty_range s.ranges) f.calls)
            u.functions) full_parts.0).0;
        apart = apart_first u.ranges (flat_map (λ u. u.ranges) us) apart;
        sequences_apart = sequence_parts.0;
        inside = inside_parts.0;
        rows = row_parts.0;
        numbers = number_parts.0;
        files = file_parts.0;
      },
      fine_from us full_parts.1 (rest_apart u.ranges (flat_map (λ u. u.ranges) us) apart) sequence_parts.1
          inside_parts.1 row_parts.1 number_parts.1 file_parts.1,
    )

all_fine : (us : List UnitPart) → IsSound us → Each IsFine us
all_fine us sound =
    fine_from us (sound_rule us EmptyRange sound) (sound_rule us UnitsOverlap sound)
    (sound_rule us SequencesOverlap sound) (sound_rule us SequenceOutside sound)
    (sound_rule us Rows sound) (sound_rule us LineOrColumn sound) (sound_rule us FileNumber sound)

-- ---- pairs

by_ends : {U : Type 0} → GoesBy (λ (p : Pair U). p.range) ends_after
by_ends p q (inl before) full_p full_q =
    let not_after : ends_after p q ≡ false = le-ltb q.range.end p.range.end (omega (arith, before, full_q)) in
    (λ e. absurd (both_ways (ends_after p q) not_after e), λ e. before)
by_ends p q (inr after) full_p full_q =
    let yes_after : ends_after p q ≡ true = lt-ltb q.range.end p.range.end (omega (arith, after, full_p)) in
    (λ e. after, λ e. absurd (both_ways (ends_after p q) e yes_after))

-- lines that weren't refused
abbrev IsRead : Result Lines Error → Type 0
IsRead r = (l : Lines) × (r ≡ Ok l)

-- the stretches of lines, none where they were refused
abbrev read_between : Result Lines Error → ℕ → ℕ → List Stretch
read_between (Ok l) low high = lines_between l low high
read_between (Err e) low high = []

module _ {U : Type 0} (ranges : U → List Range) (lines : U → Result Lines Error) (low high : ℕ) where
  abbrev range_of_pair : Pair U → Range
  range_of_pair p = p.range

  -- what a pair has between the ends, and what it adds
  abbrev clipped_to : Pair U → List Stretch
  clipped_to p = read_between (lines p.unit) (max low p.range.begin) (min high p.range.end)

  abbrev pair_part : Pair U → List Stretch
  pair_part p = cond (overlaps low high p.range) (clipped_to p) []

  -- its lines weren't refused
  abbrev HasLines : Pair U → Type 0
  HasLines p = IsRead (lines p.unit)

  pairs_read : (ps : List (Pair U)) → Each HasLines ps
      → stretches_of_pairs lines low high ps ≡ record { items = flat_map clipped_to ps; ending = Ok tt }
  pairs_read [] all = refl
  pairs_read (p ∷ ps) all =
      ap (λ o. with_stretches low high p.range o (stretches_of_pairs lines low high ps)) all.0.1
      ∙ ap (prepend (lines_between all.0.0 (max low p.range.begin) (min high p.range.end))) (pairs_read ps all.1)
      ∙ sym (ap (λ o. record {
        items = read_between o (max low p.range.begin) (min high p.range.end)
            ++ flat_map clipped_to ps;
        ending = Ok tt;
      }) all.0.1)

  -- ---- the pairs of one unit

  abbrev pair : ℕ → U → Range → Pair U
  pair n x r = record { range = r; number = n; unit = x }

  abbrev whole : (u : UnitPart) (x : U) → IsKnown u (ranges x) (lines x) → List Stretch
  whole u x k = flat_map (λ s. stretches_of k.files s.end s.rows) k.sequences

  part_alike : (a n : ℕ) (u : UnitPart) (x : U) (k : IsKnown u (ranges x) (lines x)) (rs : List Range)
      → Each (λ r. Each (IsPlaced r) (whole u x k)) rs
      → Each (λ r. stretches_at a (pair_part (pair n x r))
      ≡ cond (holds a r) (stretches_at a (filter (is_between low high) (whole u x k))) []) rs
  part_alike a n u x k [] placed = tt
  part_alike a n u x k (r ∷ rs) placed = (
    ap (λ o. stretches_at a (cond (overlaps low high r) (read_between o (max low r.begin) (min high r.end)) []))
        k.lines_are
        ∙ added_alike low high r a k.files k.sequences k.all_kept k.apart placed.0,
    part_alike a n u x k rs placed.1,
  )

  unit_alike : (a n : ℕ) (u : UnitPart) (x : U) → IsKnown u (ranges x) (lines x)
      → stretches_at a (flat_map pair_part (pairs_of ranges n x))
      ≡ stretches_at a (filter (is_between low high) (map lookup_stretch (unit_stretches u)))
  unit_alike a n u x k =
      ranges_add a (stretches_at a (filter (is_between low high) (whole u x k))) pair_part (pair n x) (ranges x)
      k.ranges_apart
      (part_alike a n u x k (ranges x) (placed_in_each (ranges x) (whole u x k) k.ranges_apart k.all_housed))
      ∙ all_held a (ranges x) (filter (is_between low high) (whole u x k))
      (filter_each (IsHoused (ranges x)) (is_between low high) (whole u x k) k.all_housed)
      ∙ ap (λ l. stretches_at a (filter (is_between low high) l)) k.whole_is

  part_blocks : (n : ℕ) (u : UnitPart) (x : U) (k : IsKnown u (ranges x) (lines x)) (rs : List Range) → Each Full rs
      → Each (λ r. Each (IsPlaced r) (whole u x k)) rs
      → Each (IsBlock range_of_pair pair_part) (map (λ r. record { range = r; number = n; unit = x }) rs)
  part_blocks n u x k [] full placed = tt
  part_blocks n u x k (r ∷ rs) full placed =
      let same =
      sym (ap (λ o. cond (overlaps low high r) (read_between o (max low r.begin) (min high r.end)) [])
      k.lines_are) in (
        (
          full.0,
          subst (λ l. Each (BeginsIn r) l) same
              (added_begins low high r k.files k.sequences k.all_kept k.apart placed.0),
          subst (λ l. Climbs 0 l) same (added_climbs low high r k.files k.sequences k.all_kept k.apart),
        ),
        part_blocks n u x k rs full.1 placed.1,
      )

  unit_read : (n : ℕ) (x : U) (rs : List Range) → IsRead (lines x)
      → Each HasLines (map (λ r. record { range = r; number = n; unit = x }) rs)
  unit_read n x [] read = tt
  unit_read n x (r ∷ rs) read = (read, unit_read n x rs read)

  unit_ranges : (n : ℕ) (x : U) (rs : List Range)
      → map range_of_pair (map (λ r. record { range = r; number = n; unit = x }) rs) ≡ rs
  unit_ranges n x [] = refl
  unit_ranges n x (r ∷ rs) = ap (λ l. r ∷ l) (unit_ranges n x rs)

  -- ---- the pairs of all units

  all_alike : (a n : ℕ) (us : List UnitPart) (xs : List U) → TableAgrees ranges lines us xs → Each IsFine us
      → stretches_at a (flat_map pair_part (pairs_from ranges n xs))
      ≡ stretches_at a (filter (is_between low high) (map lookup_stretch (flat_map unit_stretches us)))
  all_alike a n [] [] agrees fine = refl
  all_alike a n [] (x ∷ xs) agrees fine = absurd agrees
  all_alike a n (u ∷ us) [] agrees fine = absurd agrees
  all_alike a n (u ∷ us) (x ∷ xs) agrees fine =
      ap (stretches_at a) (flat_map-append pair_part (pairs_of ranges n x) (pairs_from ranges (n + 1) xs))
      ∙ filter-append (λ t. t.address == a) (flat_map pair_part (pairs_of ranges n x))
      (flat_map pair_part (pairs_from ranges (n + 1) xs))
      ∙ ap (λ l. l ++ stretches_at a (flat_map pair_part (pairs_from ranges (n + 1) xs)))
      (unit_alike a n u x (unit_known u (ranges x) (lines x) agrees.0 fine.0))
      ∙ ap (λ l. stretches_at a (filter (is_between low high) (map lookup_stretch (unit_stretches u))) ++ l)
      (all_alike a (n + 1) us xs agrees.1 fine.1)
      ∙ sym (ap (λ l. stretches_at a (filter (is_between low high) l))
      (map-append lookup_stretch (unit_stretches u) (flat_map unit_stretches us))
      ∙ ap (stretches_at a)
      (filter-append (is_between low high) (map lookup_stretch (unit_stretches u))
      (map lookup_stretch (flat_map unit_stretches us)))
      ∙ filter-append (λ t. t.address == a) (filter (is_between low high) (map lookup_stretch (unit_stretches u)))
      (filter (is_between low high) (map lookup_stretch (flat_map unit_stretches us))))

  all_blocks : (n : ℕ) (us : List UnitPart) (xs : List U) → TableAgrees ranges lines us xs → Each IsFine us
      → Each (IsBlock range_of_pair pair_part) (pairs_from ranges n xs)
  all_blocks n [] [] agrees fine = tt
  all_blocks n [] (x ∷ xs) agrees fine = absurd agrees
  all_blocks n (u ∷ us) [] agrees fine = absurd agrees
  all_blocks n (u ∷ us) (x ∷ xs) agrees fine =
      let k = unit_known u (ranges x) (lines x) agrees.0 fine.0 in
      each_append (IsBlock range_of_pair pair_part) (pairs_of ranges n x) (pairs_from ranges (n + 1) xs)
      (part_blocks n u x k (ranges x) k.ranges_full
      (placed_in_each (ranges x) (whole u x k) k.ranges_apart k.all_housed)) (all_blocks (n + 1) us xs agrees.1 fine.1)

  all_read : (n : ℕ) (us : List UnitPart) (xs : List U) → TableAgrees ranges lines us xs
      → Each HasLines (pairs_from ranges n xs)
  all_read n [] [] agrees = tt
  all_read n [] (x ∷ xs) agrees = absurd agrees
  all_read n (u ∷ us) [] agrees = absurd agrees
  all_read n (u ∷ us) (x ∷ xs) agrees =
      let t = agrees.0 in
      each_append HasLines (pairs_of ranges n x) (pairs_from ranges (n + 1) xs)
      (unit_read n x (ranges x) (record { sequences = sequences_of_rows t.rows; files = t.files }, t.lines_are))
      (all_read (n + 1) us xs agrees.1)

  ranges_are : (n : ℕ) (us : List UnitPart) (xs : List U) → TableAgrees ranges lines us xs
      → map range_of_pair (pairs_from ranges n xs) ≡ map lookup_range (flat_map (λ u. u.ranges) us)
  ranges_are n [] [] agrees = refl
  ranges_are n [] (x ∷ xs) agrees = absurd agrees
  ranges_are n (u ∷ us) [] agrees = absurd agrees
  ranges_are n (u ∷ us) (x ∷ xs) agrees =
      let t = agrees.0 in
      map-append range_of_pair (pairs_of ranges n x) (pairs_from ranges (n + 1) xs)
      ∙ ap (λ l. l ++ map range_of_pair (pairs_from ranges (n + 1) xs)) (unit_ranges n x (ranges x) ∙ t.ranges_agree)
      ∙ ap (λ l. map lookup_range u.ranges ++ l) (ranges_are (n + 1) us xs agrees.1)
      ∙ sym (map-append lookup_range u.ranges (flat_map (λ u. u.ranges) us))

  -- ---- the answer

  parts_are : (us : List UnitPart) (xs : List U) → IsSound us → TableAgrees ranges lines us xs
      → flat_map pair_part (all_pairs ranges xs) ≡ map lookup_stretch (table.stretches_between us low high)
  parts_are us xs sound agrees =
      let fine = all_fine us sound in
      let ps = pairs_from ranges 0 xs in
      let blocks = all_blocks 0 us xs agrees fine in
      let apart : AllApart range_of_pair ps =
      apart_by_map range_of_pair ps
      (subst (λ l. AllApart (λ r. r) l) (sym (ranges_are 0 us xs agrees))
      (all_apart (flat_map (λ u. u.ranges) us) (sound_rule us UnitsOverlap sound))) in
      let between = filter (table.is_between low high) (flat_map unit_stretches us) in
      alike_are_same 0 0 (flat_map pair_part (all_pairs ranges xs))
      (map lookup_stretch (table.stretches_between us low high))
      (blocks_climb range_of_pair ends_after pair_part by_ends ps apart blocks)
      (lookups_climb 0 (table.stretches_between us low high) (stretches_ascend us low high))
      (λ a.
      blocks_alike range_of_pair ends_after pair_part a ps apart blocks
      ∙ all_alike a 0 us xs agrees fine
      ∙ ap (stretches_at a) (lookups_filter low high (flat_map unit_stretches us))
      ∙ sym (order_alike a between))

  answer_is : (us : List UnitPart) (xs : List U) → IsSound us → TableAgrees ranges lines us xs
      → stretches_between ranges lines xs low high
      ≡ prepend (map lookup_stretch (table.stretches_between us low high)) (no_items (Ok tt))
  answer_is us xs sound agrees =
      let read = filter_each HasLines (λ p. overlaps low high p.range) (all_pairs ranges xs)
      (in_order_each ends_after HasLines (pairs_from ranges 0 xs) (all_read 0 us xs agrees)) in
      pairs_read (overlapping_pairs ranges xs low high) read
      ∙ ap (λ (l : List Stretch). record { items = l; ending = Ok tt })
      (flat_filter clipped_to (λ p. overlaps low high p.range) (all_pairs ranges xs) ∙ parts_are us xs sound agrees
      ∙ sym (append-nil (map lookup_stretch (table.stretches_between us low high))))

pub stretches_meet : {U : Type 0} (ranges : U → List Range) (lines : U → Result Lines Error) (us : List UnitPart)
    (xs : List U) (low high : ℕ) → IsSound us → TableAgrees ranges lines us xs
    → stretches_between ranges lines xs low high
    ≡ prepend (map lookup_stretch (table.stretches_between us low high)) (no_items (Ok tt))
stretches_meet ranges lines us xs low high sound agrees = answer_is ranges lines low high us xs sound agrees
