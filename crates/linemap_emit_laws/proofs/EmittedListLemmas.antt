-- The range list of a unit is read as its ranges.
use Rattle.std.proofs.Common.{◌≡◌, ℕ, ◌+◌, ◌≤◌, Bool, true, false, cond, List, [], ◌∷◌, ◌++◌, length, map, Result, Ok, Err, refl, sym, ap, ◌∙◌, arith, append_assoc}
use Rattle.std.specs.Prelude.{nat_le}
use Rattle.std.proofs.lemmas.Bool.{le-ltb}
use Rattle.std.proofs.lemmas.List.{length-append}
use Rattle.std.proofs.Math.Seq.{drop-append_seam}
use Rattle.linemap_emit_units.specs.Error.{Error}
use Rattle.linemap_emit_units.specs.View.{View, after, unexpected_end}
use Rattle.linemap_emit_units.specs.Parsers.{skip, here, proceed, value_of}
use Rattle.linemap_emit_units.specs.Encoding.{Encoding}
use Rattle.linemap_emit_units.specs.Format.{Format}
use Rattle.linemap_emit_units.specs.Format.TheVariants.{Dwarf32, Dwarf64}
use Rattle.linemap_emit_units.specs.FormatSizes.{initial_length_size}
use Rattle.linemap_emit_units.specs.Fixed.{number_bytes}
use Rattle.linemap_emit_units.specs.NumberBytes.{spelled_length}
use Rattle.linemap_emit_units.specs.NumberParsers.{is_address_size}
use Rattle.linemap_emit_units.proofs.NumberRoundTrip.{length-spelled}
use Rattle.linemap_emit_units.specs.Range.{Range}
use Rattle.linemap_emit_units.specs.ListSections.{lists_at, from_offset, from_low_pc, range_section, ranges_to_come}
use Rattle.linemap_emit_units.specs.Results.{and_then}
use Rattle.linemap_emit_units.specs.Attributes.{Bases, ranges_of_list}
use Rattle.linemap_emit_units.specs.DwarfFiles.{DwarfFile}
use Rattle.linemap_emit_units.specs.TableParts.{RangePart}
use Rattle.linemap_emit_units.specs.EmittedRanges.{AllWritable, lists_start, spelled_lists, spelled_lists_header, spelled_ranges}
use Rattle.linemap_emit_units.proofs.EmittedRangesRead.{ranges_again}
use Rattle.linemap_emit_units.specs.LookupAgreement.{lookup_range}
use Rattle.linemap_emit_units.specs.BytesAt.{bytes_at}

-- the bytes after those before
pub skip_before : (is_big : Bool) (first : ℕ) (front rest : List ℕ)
    → skip (length front) (bytes_at is_big first (front ++ rest)) ≡ Ok (tt, bytes_at is_big (first + length front) rest)
skip_before is_big first front rest =
    let v = bytes_at is_big first (front ++ rest) in
    let within : length front ≤ length (front ++ rest) = omega (arith, length-append front rest) in
    ap (λ b. cond {A = Result (Unit {0} × View) Error} b (Err (unexpected_end v)) (Ok (tt, after (length front) v)))
    (le-ltb (length (front ++ rest)) (length front) within)
    ∙ ap (λ bytes. Ok (tt, bytes_at is_big (first + length front) bytes)) (drop-append_seam front rest)

-- ranges as they are written are those that lookups see
all_ranges_agree : (rs : List RangePart)
    → ◌≡◌ {A = List (Result Range Error)} (map (λ r. Ok r) (map lookup_range rs)) (map (λ r. Ok (lookup_range r)) rs)
all_ranges_agree [] = refl
all_ranges_agree (r ∷ rs) = ap (λ l. Ok (lookup_range r) ∷ l) (all_ranges_agree rs)

-- what comes of a list, from the bytes of its section
abbrev ranges_at_offset : DwarfFile → Bases → ℕ → Encoding → ℕ → View → Result (List (Result Range Error)) Error
ranges_at_offset s b offset e low_pc section =
    and_then (lists_at
    (λ left. record {
      raw = record { encoding = e; rest = left };
      against = from_low_pc e low_pc b.addr_base s.sections.debug_addr;
    }) (from_offset offset section))
    (λ r. Ok (ranges_to_come s.offset_limit r))

-- ---- the section of the lists

-- how long the header before them is
header_is : (e : Encoding) (is_big : Bool) (size : ℕ) → length (spelled_lists_header e is_big size) ≡ lists_start e
header_is e is_big size = by_version (nat_le e.version 4) refl
  where
    length_is : (format : Format) → length (spelled_length format is_big (8 + size)) ≡ initial_length_size format
    length_is Dwarf32 = omega (arith, length-spelled is_big 4 (8 + size))
    length_is Dwarf64 =
        omega (
          arith,
          length-spelled is_big 4 0xffffffff,
          length-spelled is_big 8 (8 + size),
          length-append (number_bytes is_big 4 0xffffffff) (number_bytes is_big 8 (8 + size)),
        )

    by_version : (b : Bool) → nat_le e.version 4 ≡ b
        → length (spelled_lists_header e is_big size) ≡ lists_start e
    by_version true old = rw old refl
    by_version false later =
        rw later (omega (
          arith,
          length_is e.format,
          length-spelled is_big 2 e.version,
          length-spelled is_big 4 0,
          length-append (number_bytes is_big 2 e.version) (e.address_size ∷ 0 ∷ number_bytes is_big 4 0),
          length-append (spelled_length e.format is_big (8 + size))
              (number_bytes is_big 2 e.version ++ (e.address_size ∷ 0 ∷ number_bytes is_big 4 0)),
        ))

-- the first identifier of the section of a version's lists
abbrev pub lists_first : Encoding → ℕ → ℕ → ℕ
lists_first e ranges rnglists = cond (nat_le e.version 4) ranges rnglists

-- the section of lists
section_is : (e : Encoding) (is_big : Bool) (ranges rnglists : ℕ) (s : DwarfFile) (lists : List ℕ)
    → s.sections.ranges.debug_ranges ≡ bytes_at is_big ranges (cond (nat_le e.version 4) lists [])
    → s.sections.ranges.debug_rnglists
    ≡ bytes_at is_big rnglists (cond (nat_le e.version 4) [] (spelled_lists e is_big lists))
    → range_section e s.sections.ranges
    ≡ bytes_at is_big (lists_first e ranges rnglists) (spelled_lists e is_big lists)
section_is e is_big ranges rnglists s lists old new = by_version (nat_le e.version 4) refl
  where
    by_version : (b : Bool) → nat_le e.version 4 ≡ b
        → range_section e s.sections.ranges
        ≡ bytes_at is_big (lists_first e ranges rnglists) (spelled_lists e is_big lists)
    by_version true earlier =
        rw earlier (old ∙ ap (λ (t : Bool). bytes_at is_big ranges (cond t lists [])) earlier)
    by_version false later =
        let known =
        new ∙ ap (λ (t : Bool). bytes_at is_big rnglists (cond t [] (spelled_lists e is_big lists))) later in
        ap (λ (t : Bool). cond t s.sections.ranges.debug_ranges s.sections.ranges.debug_rnglists) later ∙ known
        ∙ ap (λ (t : Bool). bytes_at is_big (cond t ranges rnglists) (spelled_lists e is_big lists)) (sym later)

-- a list after others, and before others
list_at : (e : Encoding) (is_big : Bool) (first : ℕ) (s : DwarfFile) (b : Bases) (front rest : List ℕ)
    (rs : List RangePart) → is_address_size e.address_size ≡ true
    → AllWritable e.address_size (map lookup_range rs)
    → range_section e s.sections.ranges
    ≡ bytes_at is_big first ((front ++ spelled_ranges e is_big (map lookup_range rs)) ++ rest)
    → b.encoding ≡ e → b.low_pc ≡ 0 → ranges_of_list s b (length front) ≡ Ok (map (λ r. Ok (lookup_range r)) rs)
list_at e is_big first s b front rest rs is_size writable section encoding low =
    let string = spelled_ranges e is_big (map lookup_range rs) in
    let regrouped : (front ++ string) ++ rest ≡ front ++ (string ++ rest) = append_assoc front string rest in
    ap (λ c. ranges_at_offset s b (length front) c b.low_pc (range_section c s.sections.ranges)) encoding
    ∙ ap (λ n. ranges_at_offset s b (length front) e n (range_section e s.sections.ranges)) low
    ∙ ap (ranges_at_offset s b (length front) e 0) (section ∙ ap (bytes_at is_big first) regrouped)
    ∙ ap (λ (r : Result (Unit {0} × View) Error). and_then
    (lists_at (λ left. record {
      raw = record { encoding = e; rest = left };
      against = from_low_pc e 0 b.addr_base s.sections.debug_addr;
    }) (value_of (proceed r (λ _. here))))
    (λ r. Ok (ranges_to_come s.offset_limit r))) (skip_before is_big first front (string ++ rest))
    ∙ ap (λ l. Ok l)
    (ranges_again s.offset_limit e is_big (first + length front) b.addr_base s.sections.debug_addr
    (map lookup_range rs) rest
    is_size
    writable ∙ all_ranges_agree rs)

-- a list of a section, after others and before others
pub list_is : (e : Encoding) (is_big : Bool) (ranges rnglists : ℕ) (s : DwarfFile) (b : Bases)
    (front rest lists : List ℕ) (rs : List RangePart) → is_address_size e.address_size ≡ true
    → AllWritable e.address_size (map lookup_range rs)
    → s.sections.ranges.debug_ranges ≡ bytes_at is_big ranges (cond (nat_le e.version 4) lists [])
    → s.sections.ranges.debug_rnglists
    ≡ bytes_at is_big rnglists (cond (nat_le e.version 4) [] (spelled_lists e is_big lists))
    → lists ≡ (front ++ spelled_ranges e is_big (map lookup_range rs)) ++ rest → b.encoding ≡ e → b.low_pc ≡ 0
    → ranges_of_list s b (lists_start e + length front) ≡ Ok (map (λ r. Ok (lookup_range r)) rs)
list_is e is_big ranges rnglists s b front rest lists rs is_size writable old new lists_are encoding low =
    let header = spelled_lists_header e is_big (length lists) in
    let string = spelled_ranges e is_big (map lookup_range rs) in
    let regrouped : header ++ lists ≡ ((header ++ front) ++ string) ++ rest =
    ap (λ (l : List ℕ). header ++ l) lists_are ∙ sym (append_assoc header (front ++ string) rest)
    ∙ ap (λ (l : List ℕ). l ++ rest) (sym (append_assoc header front string)) in
    let place : length (header ++ front) ≡ lists_start e + length front =
    omega (arith, length-append header front, header_is e is_big (length lists)) in
    ap (ranges_of_list s b) (sym place)
    ∙ list_at e is_big (lists_first e ranges rnglists) s b (header ++ front) rest rs is_size writable
    (section_is e is_big ranges rnglists s lists old new
    ∙ ap (bytes_at is_big (lists_first e ranges rnglists)) regrouped)
    encoding low
