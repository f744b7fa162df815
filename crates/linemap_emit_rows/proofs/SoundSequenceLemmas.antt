-- Sequences that no condition refuses can be emitted.
use Rattle.std.proofs.Common.{◌≡◌, ℕ, ◌<◌, ◌≤◌, ◌^◌, ◌-◌, Bool, true, false, ◌||◌, ◌==◌, nat_lt, nat_le, List, [], ◌∷◌, length, refl, arith}
use Rattle.std.specs.List.{list_any}
use Rattle.std.proofs.lemmas.Bool.{ltb-false, leb-false, le-ltb, not-true, or_parts, or_from, lt-leb}
use Rattle.linemap_places_laws.specs.TableParts.{RowPart, SequencePart, UnitPart}
use Rattle.linemap_places_laws.specs.Conditions.{IsSound, any_ranges, any_call, goes_back, goes_back_from, has_bad_rows, has_bad_line_or_column, has_bad_file_number, has_out_of_bounds, has_bad_discriminator, has_sequence_with_bad_rows, is_bad_discriminator, is_bad_number, is_out_of_bounds, range_out_of_bounds, sequence_out_of_bounds}
use Rattle.linemap_places_laws.specs.EncodingFits.{least_tombstone, any_address, fits}
use Rattle.linemap_places_laws.specs.Rule.TheVariants.{Bounds, Rows, LineOrColumn, FileNumber, Discriminator}
use Rattle.linemap_places_laws.proofs.SoundUnits.{sound_rule}
use Rattle.linemap_emit_rows.specs.EmittedRows.{CanShowAll, AllSequences, CanBuild, AllBelow, CanBuildAll, AllCanBuild, AllFrom}
use Rattle.linemap_emit_rows.specs.SoundSequences.{CanEmitSequences, AllCanEmitSequences}

-- ---- rows

-- what no condition refuses of a row
record IsPlain (size files : ℕ) (end : ℕ) (r : RowPart) : Type 0 where
  bounds : is_out_of_bounds r.address ≡ false
  fits_size : r.address < least_tombstone size
  below : r.address < end
  line : is_bad_number r.line ≡ false
  column : is_bad_number r.column ≡ false
  file : r.file < files
  discriminator : is_bad_discriminator r.discriminator ≡ false

unfoldable AllPlain : ℕ → ℕ → ℕ → List RowPart → Type 0
AllPlain size files end [] = Unit {0}
AllPlain size files end (r ∷ rs) = IsPlain size files end r × AllPlain size files end rs

abbrev bad_number : RowPart → Bool
bad_number r = is_bad_number r.line || is_bad_number r.column

abbrev bad_discriminator : RowPart → Bool
bad_discriminator r = is_bad_discriminator r.discriminator

-- an address that a size of addresses doesn't have
abbrev pub is_high : ℕ → ℕ → Bool
is_high size address = nat_le (least_tombstone size) address

all_plain : (size files end : ℕ) (rs : List RowPart) → list_any (λ r. is_out_of_bounds r.address) rs ≡ false
    → list_any (λ r. is_high size r.address) rs ≡ false
    → list_any (λ r. nat_le end r.address) rs ≡ false → list_any bad_number rs ≡ false
    → list_any (λ r. nat_le files r.file) rs ≡ false → list_any bad_discriminator rs ≡ false
    → AllPlain size files end rs
unfolding AllPlain
all_plain size files end [] a h b c d e = tt
all_plain size files end (r ∷ rs) a h b c d e =
    let ph = or_parts (is_high size r.address) (list_any (λ r. is_high size r.address) rs) h in
    let pa = or_parts (is_out_of_bounds r.address) (list_any (λ r. is_out_of_bounds r.address) rs) a in
    let pb = or_parts (nat_le end r.address) (list_any (λ r. nat_le end r.address) rs) b in
    let pc = or_parts (bad_number r) (list_any bad_number rs) c in
    let pd = or_parts (nat_le files r.file) (list_any (λ r. nat_le files r.file) rs) d in
    let pe = or_parts (bad_discriminator r) (list_any bad_discriminator rs) e in
    let numbers = or_parts (is_bad_number r.line) (is_bad_number r.column) pc.0 in (
      record {
        bounds = pa.0;
        fits_size = leb-false (least_tombstone size) r.address ph.0;
        below = leb-false end r.address pb.0;
        line = numbers.0;
        column = numbers.1;
        file = leb-false files r.file pd.0;
        discriminator = pe.0;
      },
      all_plain size files end rs pa.1 ph.1 pb.1 pc.1 pd.1 pe.1,
    )

in_bounds : (a : ℕ) → is_out_of_bounds a ≡ false → a ≤ 2 ^ 64 - 3
in_bounds a h = ltb-false (2 ^ 64 - 3) a (or_parts (nat_lt a 1) (nat_lt (2 ^ 64 - 3) a) h).1

is_small : (n : ℕ) → is_bad_number n ≡ false → n ≤ 2 ^ 32 - 1
is_small n h = ltb-false (2 ^ 32 - 1) n (or_parts (nat_lt n 1) (nat_lt (2 ^ 32 - 1) n) h).1

can_build : (size files end low : ℕ) (rs : List RowPart) → AllPlain size files end rs
    → goes_back_from low rs ≡ false → CanBuild size low rs
unfolding AllPlain CanBuild
can_build size files end low [] all ascend = tt
can_build size files end low (r ∷ rs) all ascend =
    let in_size = all.0.fits_size in
    let p = or_parts (nat_lt r.address low) (goes_back_from r.address rs) ascend in
    let after = ltb-false r.address low p.0 in
    let high = in_bounds r.address all.0.bounds in
    let line = is_small r.line all.0.line in
    let column = is_small r.column all.0.column in
    let discriminator = ltb-false (2 ^ 32 - 1) r.discriminator all.0.discriminator in (
      after,
      omega arith,
      omega arith,
      omega arith,
      omega arith,
      omega arith,
      can_build size files end r.address rs all.1 p.1,
    )

all_below : (size files end : ℕ) (rs : List RowPart) → AllPlain size files end rs → AllBelow end rs
unfolding AllPlain AllBelow
all_below size files end [] all = tt
all_below size files end (r ∷ rs) all = let below = all.0.below in (omega arith, all_below size files end rs all.1)

all_from : (size files end begin low : ℕ) (rs : List RowPart) → AllPlain size files end rs → begin ≤ low
    → goes_back_from low rs ≡ false → AllFrom files begin rs
unfolding AllPlain AllFrom
all_from size files end begin low [] all from ascend = tt
all_from size files end begin low (r ∷ rs) all from ascend =
    let p = or_parts (nat_lt r.address low) (goes_back_from r.address rs) ascend in
    let after = ltb-false r.address low p.0 in
    (omega arith, all.0.file, all_from size files end begin r.address rs all.1 (omega arith) p.1)

-- ---- one sequence

record CanEmitSequence (size files : ℕ) (s : SequencePart) : Type 0 where
  can_build : CanBuildAll size s
  can_show : CanShowAll files s

can_emit_sequence : (size files : ℕ) (rs : List RowPart) (end : ℕ) → AllPlain size files end rs
    → is_out_of_bounds end ≡ false → is_high size end ≡ false
    → has_bad_rows (record { rows = rs; end = end }) ≡ false
    → CanEmitSequence size files (record { rows = rs; end = end })
unfolding AllPlain
can_emit_sequence size files [] end all bounds low_end good = absurd cc
can_emit_sequence size files (r ∷ rs) end all bounds low_end good =
    let parts =
    or_parts ((length (r ∷ rs) == 0) || goes_back (r ∷ rs)) (list_any (λ x. nat_le end x.address) (r ∷ rs)) good in
    let back = (or_parts (length (r ∷ rs) == 0) (goes_back (r ∷ rs)) parts.0).1 in
    let later = (or_parts (nat_lt r.address 0) (goes_back_from r.address rs) back).1 in
    let here : goes_back_from r.address (r ∷ rs) ≡ false = stays r.address later in
    let below = all.0.below in
    let high = in_bounds end bounds in
    let in_size = leb-false (least_tombstone size) end low_end in
    record {
      can_build = record {
        first = r;
        others = rs;
        rows = refl;
        begins = lt-leb (least_tombstone size) r.address all.0.fits_size;
        ascend = can_build size files end r.address (r ∷ rs) all here;
        above = all_below size files end (r ∷ rs) all;
        ends = omega arith;
        ends_low = omega arith;
      };
      can_show = record {
        first = r;
        others = rs;
        rows = refl;
        all = all_from size files end r.address r.address (r ∷ rs) all (omega arith) here;
        end = omega arith;
      };
    }
  where
    stays : (a : ℕ) → goes_back_from a rs ≡ false → (nat_lt a a || goes_back_from a rs) ≡ false
    stays a h = or_from _ _ (le-ltb a a (omega arith)) h

-- ---- the sequences of a unit

-- some row of the sequence, or its end, is at such an address
abbrev sequence_is_high : ℕ → SequencePart → Bool
sequence_is_high size s = list_any (λ r. is_high size r.address) s.rows || is_high size s.end

all_can_emit_sequences : (size files : ℕ) (ss : List SequencePart)
    → list_any sequence_out_of_bounds ss ≡ false → list_any (sequence_is_high size) ss ≡ false
    → list_any has_bad_rows ss ≡ false
    → list_any (λ s. list_any bad_number s.rows) ss ≡ false
    → list_any (λ s. list_any (λ r. nat_le files r.file) s.rows) ss ≡ false
    → list_any (λ s. list_any bad_discriminator s.rows) ss ≡ false → CanEmitSequences size files ss
unfolding AllCanBuild AllSequences
all_can_emit_sequences size files [] a h b c d e = record { can_build = tt; can_show = tt }
all_can_emit_sequences size files (s ∷ ss) a h b c d e =
    let ph = or_parts (sequence_is_high size s) (list_any (sequence_is_high size) ss) h in
    let low = or_parts (list_any (λ r. is_high size r.address) s.rows) (is_high size s.end) ph.0 in
    let pa = or_parts (sequence_out_of_bounds s) (list_any sequence_out_of_bounds ss) a in
    let pb = or_parts (has_bad_rows s) (list_any has_bad_rows ss) b in
    let pc = or_parts (list_any bad_number s.rows) (list_any (λ s. list_any bad_number s.rows) ss) c in
    let pd =
    or_parts (list_any (λ r. nat_le files r.file) s.rows)
    (list_any (λ s. list_any (λ r. nat_le files r.file) s.rows) ss) d in
    let pe = or_parts (list_any bad_discriminator s.rows) (list_any (λ s. list_any bad_discriminator s.rows) ss) e in
    let bounds = or_parts (list_any (λ r. is_out_of_bounds r.address) s.rows) (is_out_of_bounds s.end) pa.0 in
    let rows =
    or_parts ((length s.rows == 0) || goes_back s.rows) (list_any (λ r. nat_le s.end r.address) s.rows) pb.0 in
    let one =
    can_emit_sequence size files s.rows s.end
    (all_plain size files s.end s.rows bounds.0 low.0 rows.1 pc.0 pd.0 pe.0) bounds.1 low.1 pb.0 in
    let others = all_can_emit_sequences size files ss pa.1 ph.1 pb.1 pc.1 pd.1 pe.1 in
    record {
      can_build = (one.can_build, others.can_build);
      can_show = (one.can_show, others.can_show);
    }

-- ---- all units

record HasSoundRows (size : ℕ) (us : List UnitPart) : Type 0 where
  bounds : list_any has_out_of_bounds us ≡ false
  fits_size : list_any (any_address (is_high size)) us ≡ false
  rows : list_any has_sequence_with_bad_rows us ≡ false
  numbers : list_any has_bad_line_or_column us ≡ false
  files : list_any has_bad_file_number us ≡ false
  discriminators : list_any has_bad_discriminator us ≡ false

units_can_emit_sequences : (size : ℕ) (us : List UnitPart) → HasSoundRows size us → AllCanEmitSequences size us
unfolding AllCanEmitSequences
units_can_emit_sequences size [] known = tt
units_can_emit_sequences size (u ∷ us) known =
    let low = or_parts (any_address (is_high size) u) (list_any (any_address (is_high size)) us) known.fits_size in
    let low_parts =
    or_parts (any_ranges (list_any (λ r. is_high size r.begin || is_high size r.end)) u)
    (list_any (sequence_is_high size) u.sequences) low.0 in
    let bounds = or_parts (has_out_of_bounds u) (list_any has_out_of_bounds us) known.bounds in
    let rows = or_parts (has_sequence_with_bad_rows u) (list_any has_sequence_with_bad_rows us) known.rows in
    let numbers = or_parts (has_bad_line_or_column u) (list_any has_bad_line_or_column us) known.numbers in
    let files = or_parts (has_bad_file_number u) (list_any has_bad_file_number us) known.files in
    let discriminators =
    or_parts (has_bad_discriminator u) (list_any has_bad_discriminator us) known.discriminators in
    let bound_parts =
    or_parts (any_ranges (list_any range_out_of_bounds) u) (list_any sequence_out_of_bounds u.sequences) bounds.0 in
    let number_parts =
    or_parts (list_any (λ s. list_any bad_number s.rows) u.sequences)
    (list_any (λ f. any_call (λ c. is_bad_number c.line || is_bad_number c.column) f.calls) u.functions)
    numbers.0 in
    let file_parts =
    or_parts (list_any (λ s. list_any (λ r. nat_le (length u.files) r.file) s.rows) u.sequences)
    (list_any (λ f. any_call (λ c. nat_le (length u.files) c.file) f.calls) u.functions) files.0 in (
      all_can_emit_sequences size (length u.files) u.sequences bound_parts.1 low_parts.1 rows.0 number_parts.0
          file_parts.0 discriminators.0,
      units_can_emit_sequences size us
          (record {
            bounds = bounds.1;
            fits_size = low.1;
            rows = rows.1;
            numbers = numbers.1;
            files = files.1;
            discriminators = discriminators.1;
          }),
    )

pub sound_can_emit : (size : ℕ) (us : List UnitPart) → IsSound us → fits size us ≡ true
    → AllCanEmitSequences size us
sound_can_emit size us sound fitting =
    units_can_emit_sequences size us
    (record {
      bounds = sound_rule us Bounds sound;
      fits_size = not-true (list_any (any_address (is_high size)) us) fitting;
      rows = sound_rule us Rows sound;
      numbers = sound_rule us LineOrColumn sound;
      files = sound_rule us FileNumber sound;
      discriminators = sound_rule us Discriminator sound;
    })
