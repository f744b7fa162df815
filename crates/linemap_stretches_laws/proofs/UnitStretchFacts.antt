-- What lookups know of a unit of a sound table, as far as stretches go.
use Rattle.std.proofs.Common.{◌≡◌, ℕ, false, cond, ◌==◌, ◌||◌, nat_le, List, [], ◌∷◌, ◌++◌, length, map, flat_map, Result, Ok, refl, sym, ap, subst, ◌∙◌, arith}
use Rattle.std.specs.List.{list_any}
use Rattle.std.proofs.lemmas.Bool.{lt-ltb, leb-false, or_parts, or_from}
use Rattle.std.proofs.lemmas.List.{map-append}
use Rattle.linemap_places_laws.specs.Error.{Error}
use Rattle.linemap_places_laws.specs.Range.{Range}
use Rattle.linemap_places_laws.specs.Lines.{Sequence, Lines, Stretch, range_of, stretches_of}
use Rattle.linemap_places_laws.specs.TableParts.{RangePart, RowPart, SequencePart, UnitPart}
use Rattle.linemap_places_laws.specs.Conditions.{goes_back, any_overlap, is_outside, is_empty_range, any_call, extent, span, has_bad_rows, is_bad_number, has_sequences_overlap, has_sequence_outside, has_sequence_with_bad_rows, has_bad_line_or_column, has_bad_file_number}
use Rattle.linemap_places_laws.specs.Meaning.{row_stretches, unit_stretches}
use Rattle.linemap_places_laws.specs.LookupAgreement.{lookup_range, AreNumbered, UnitAgrees}
use Rattle.linemap_places_laws.proofs.AgreeingSequences.{start_of, agreeing_sequence, kept_of, good_are_kept, all_good}
use Rattle.linemap_stretches_laws.specs.LookupStretches.{lookup_stretch}
use Rattle.linemap_stretches_laws.proofs.AlikeStretches.{Each, each_implies, each_append}
use Rattle.linemap_stretches_laws.proofs.StretchBlocks.{Full, AllApart}
use Rattle.linemap_stretches_laws.proofs.StretchesBetweenEnds.{IsWithin, all_within}
use Rattle.linemap_places_laws.proofs.UnitLocations.{is_bad_row, no_bad_row}
use Rattle.linemap_stretches_laws.proofs.SequenceRowStretches.{IsKept, good_is_kept_here, sequence_stretches}
use Rattle.linemap_stretches_laws.proofs.StretchHomes.{all_apart, all_full, apart_by_map, IsHoused, home_of}

-- what is known of a unit of a sound table
pub record IsFine (u : UnitPart) : Type 0 where
  pub full : list_any is_empty_range u.ranges ≡ false
  pub apart : any_overlap u.ranges ≡ false
  pub sequences_apart : has_sequences_overlap u ≡ false
  pub inside : has_sequence_outside u ≡ false
  pub rows : has_sequence_with_bad_rows u ≡ false
  pub numbers : has_bad_line_or_column u ≡ false
  pub files : has_bad_file_number u ≡ false

-- ---- where its sequences lie

-- the addresses of a sequence
abbrev extent_agrees : SequencePart → RangePart
extent_agrees s = record { begin = start_of s.rows; end = s.end }

span_is : (s : SequencePart) → has_bad_rows s ≡ false → span s ≡ (extent_agrees s ∷ [])
span_is s h = of_rows s.rows h
  where
    of_rows : (rs : List RowPart) → has_bad_rows (record { rows = rs; end = s.end }) ≡ false
        → extent rs s.end ≡ (record { begin = start_of rs; end = s.end } ∷ [])
    of_rows [] h = absurd cc
    of_rows (r ∷ rs) h =
        let parts =
        or_parts ((length (r ∷ rs) == 0) || goes_back (r ∷ rs)) (list_any (λ x. nat_le s.end x.address) (r ∷ rs))
        h in
        let below =
        leb-false s.end r.address
        (or_parts (nat_le s.end r.address) (list_any (λ x. nat_le s.end x.address) rs) parts.1).0 in
        ap (λ b. cond b (record { begin = r.address; end = s.end } ∷ []) []) (lt-ltb r.address s.end below)

spans_are : (ss : List SequencePart) → list_any has_bad_rows ss ≡ false → flat_map span ss ≡ map extent_agrees ss
spans_are [] h = refl
spans_are (s ∷ ss) h =
    let parts = or_parts (has_bad_rows s) (list_any has_bad_rows ss) h in
    ap (λ l. l ++ flat_map span ss) (span_is s parts.0) ∙ ap (λ l. extent_agrees s ∷ l) (spans_are ss parts.1)

module _ (number : ℕ → ℕ) where
  all_kept : (ss : List SequencePart) → list_any has_bad_rows ss ≡ false
      → Each IsKept (map (agreeing_sequence number) ss)
  all_kept [] h = tt
  all_kept (s ∷ ss) h =
      let parts = or_parts (has_bad_rows s) (list_any has_bad_rows ss) h in
      (good_is_kept_here number s parts.0, all_kept ss parts.1)

  ranges_same : (ss : List SequencePart)
      → map lookup_range (map extent_agrees ss) ≡ map range_of (map (agreeing_sequence number) ss)
  ranges_same [] = refl
  ranges_same (s ∷ ss) = ap (λ l. lookup_range (extent_agrees s) ∷ l) (ranges_same ss)

  sequences_apart : (ss : List SequencePart) → list_any has_bad_rows ss ≡ false → any_overlap (flat_map span ss) ≡ false
      → AllApart range_of (map (agreeing_sequence number) ss)
  sequences_apart ss h apart =
      apart_by_map range_of (map (agreeing_sequence number) ss)
      (subst (λ l. AllApart (λ r. r) l) (ap (map lookup_range) (spans_are ss h) ∙ ranges_same ss)
      (all_apart (flat_map span ss) apart))

  -- ---- its stretches

  abbrev whole : List (List ℕ) → List SequencePart → List Stretch
  whole files ss = flat_map (λ s. stretches_of files s.end s.rows) (map (agreeing_sequence number) ss)

  whole_is : (u : UnitPart) (files : List (List ℕ)) (ss : List SequencePart) → AreNumbered number u files
      → list_any has_bad_rows ss ≡ false → list_any (λ s. list_any (is_bad_row u) s.rows) ss ≡ false
      → whole files ss ≡ map lookup_stretch (flat_map (λ s. row_stretches u s.end s.rows) ss)
  whole_is u files [] named h good = refl
  whole_is u files (s ∷ ss) named h good =
      let parts = or_parts (has_bad_rows s) (list_any has_bad_rows ss) h in
      let goods = or_parts (list_any (is_bad_row u) s.rows) (list_any (λ s. list_any (is_bad_row u) s.rows) ss) good in
      ap (λ l. l ++ whole files ss) (sequence_stretches number u files s named parts.0 goods.0)
      ∙ ap (λ l. map lookup_stretch (row_stretches u s.end s.rows) ++ l) (whole_is u files ss named parts.1 goods.1)
      ∙ sym (map-append lookup_stretch (row_stretches u s.end s.rows) (flat_map (λ s. row_stretches u s.end s.rows) ss))

  all_housed : (files : List (List ℕ)) (rs : List RangePart) (ss : List SequencePart) → list_any has_bad_rows ss ≡ false
      → list_any (is_outside rs) (map extent_agrees ss) ≡ false
      → Each (IsHoused (map lookup_range rs)) (whole files ss)
  all_housed files rs [] h inside = tt
  all_housed files rs (s ∷ ss) h inside =
      let parts = or_parts (has_bad_rows s) (list_any has_bad_rows ss) h in
      let insides =
      or_parts (is_outside rs (extent_agrees s)) (list_any (is_outside rs) (map extent_agrees ss)) inside in
      let of_s = good_is_kept_here number s parts.0 in
      let from = of_s.starts in
      let mine = stretches_of files s.end (agreeing_sequence number s).rows in
      each_append (IsHoused (map lookup_range rs)) mine (whole files ss)
      (each_implies (IsWithin (start_of s.rows) s.end) (IsHoused (map lookup_range rs)) mine
      (λ t w. (w.1, home_of (extent_agrees s) rs t w.0 w.2 insides.0))
      (all_within files (start_of s.rows) s.end (agreeing_sequence number s).rows (omega (arith, from)) of_s.rises))
      (all_housed files rs ss parts.1 insides.1)

-- rows that name a file, with a line and a column
rows_good : (u : UnitPart) (ss : List SequencePart)
    → list_any (λ s. list_any (λ r. is_bad_number r.line || is_bad_number r.column) s.rows) ss ≡ false
    → list_any (λ s. list_any (λ r. nat_le (length u.files) r.file) s.rows) ss ≡ false
    → list_any (λ s. list_any (is_bad_row u) s.rows) ss ≡ false
rows_good u [] numbers files = refl
rows_good u (s ∷ ss) numbers files =
    let p =
    or_parts (list_any (λ r. is_bad_number r.line || is_bad_number r.column) s.rows)
    (list_any (λ s. list_any (λ r. is_bad_number r.line || is_bad_number r.column) s.rows) ss) numbers in
    let q =
    or_parts (list_any (λ r. nat_le (length u.files) r.file) s.rows)
    (list_any (λ s. list_any (λ r. nat_le (length u.files) r.file) s.rows) ss) files in
    or_from _ _ (no_bad_row u s.rows p.0 q.0) (rows_good u ss p.1 q.1)

-- ---- the unit

-- the sequences and files that are known, whose stretches are the table's, each in a range of the unit
pub record IsKnown (u : UnitPart) (ranges : List Range) (lines : Result Lines Error) : Type 0 where
  pub files : List (List ℕ)
  pub sequences : List Sequence
  pub lines_are : lines ≡ Ok (record { sequences = sequences; files = files })
  pub all_kept : Each IsKept sequences
  pub apart : AllApart range_of sequences
  pub ranges_apart : AllApart (λ r. r) ranges
  pub ranges_full : Each Full ranges
  pub whole_is : flat_map (λ s. stretches_of files s.end s.rows) sequences ≡ map lookup_stretch (unit_stretches u)
  pub all_housed : Each (IsHoused ranges) (flat_map (λ s. stretches_of files s.end s.rows) sequences)

pub unit_known : (u : UnitPart) (ranges : List Range) (lines : Result Lines Error) → UnitAgrees u ranges lines
    → IsFine u → IsKnown u ranges lines
unit_known u ranges lines agrees fine =
    let number_parts =
    or_parts (list_any (λ s. list_any (λ r. is_bad_number r.line || is_bad_number r.column) s.rows) u.sequences)
    (list_any (λ f. any_call (λ c. is_bad_number c.line || is_bad_number c.column) f.calls) u.functions)
    fine.numbers in
    let file_parts =
    or_parts (list_any (λ s. list_any (λ r. nat_le (length u.files) r.file) s.rows) u.sequences)
    (list_any (λ f. any_call (λ c. nat_le (length u.files) c.file) f.calls) u.functions) fine.files in
    let same = sym agrees.ranges_agree in
    record {
      files = agrees.files;
      sequences = map (agreeing_sequence agrees.number) u.sequences;
      lines_are = agrees.lines_are ∙ ap (λ ss. Ok (record { sequences = ss; files = agrees.files }))
          (kept_of agrees.number u.sequences agrees.rows agrees.rows_agree
          ∙ good_are_kept agrees.number u.sequences (all_good u.sequences fine.rows));
      all_kept = all_kept agrees.number u.sequences fine.rows;
      apart = sequences_apart agrees.number u.sequences fine.rows fine.sequences_apart;
      ranges_apart = subst (λ l. AllApart (λ r. r) l) same (all_apart u.ranges fine.apart);
      ranges_full = subst (λ l. Each Full l) same (all_full u.ranges fine.full);
      whole_is = whole_is agrees.number u agrees.files u.sequences agrees.files_numbered fine.rows
          (rows_good u u.sequences number_parts.0 file_parts.0);
      all_housed =
          subst (λ l. Each (IsHoused l) (whole agrees.number agrees.files u.sequences)) same
          (all_housed agrees.number agrees.files u.ranges u.sequences fine.rows
          (ap (list_any (is_outside u.ranges)) (sym (spans_are u.sequences fine.rows)) ∙ fine.inside));
    }
