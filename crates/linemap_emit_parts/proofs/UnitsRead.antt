-- The bytes of units are read as the units.
use Rattle.std.proofs.Common.{◌≡◌, ℕ, ◌<◌, ◌≤◌, ◌^◌, ◌+◌, ◌-◌, ◌≢◌, Bool, true, false, cond, List, [], ◌∷◌, ◌++◌, length, Option, Some, None, Result, Ok, refl, sym, ap, ◌∙◌, arith}
use Rattle.std.specs.Prelude.{nat_le}
use Rattle.std.proofs.lemmas.List.{length-append}
use Rattle.std.proofs.lemmas.Bool.{le-leb, leb-false, eq-eqb, ne_eqb}
use Rattle.gimli_lines_write_bytes.specs.Error.{Error}
use Rattle.gimli_lines_write_bytes.specs.View.{View, bytes_left}
use Rattle.gimli_lines_write_bytes.specs.Parsers.{proceed, give, lift, within, value_of, part, here, ◌>>=◌}
use Rattle.gimli_lines_write_bytes.specs.Encoding.{Encoding}
use Rattle.gimli_lines_write_bytes.specs.Format.{Format}
use Rattle.gimli_lines_write_bytes.specs.Format.TheVariants.{Dwarf32, Dwarf64}
use Rattle.gimli_lines_write_bytes.specs.FormatSizes.{word_size}
use Rattle.gimli_lines_write_bytes.specs.NumberParsers.{is_address_size, address_size, word}
use Rattle.gimli_lines_write_bytes.specs.Fixed.{number_bytes}
use Rattle.gimli_lines_write_bytes.proofs.NumberRoundTrip.{length-spelled}
use Rattle.gimli_lines_write_bytes.specs.Repetition.{Listing, listing_in, until_end, prepend}
use Rattle.gimli_lines_write_bytes.proofs.Listings.{listing_end, listing_item}
use Rattle.gimli_units_lists.proofs.Wrapping.{at_most_eight}
use Rattle.gimli_lines_header.specs.Tiling.{part_of, whole_section}
use Rattle.gimli_lines_header.proofs.TilingLemmas.{parts_shrink}
use Rattle.gimli_lines_header.proofs.UnitHeaderLemmas.{units_are_parts}
use Rattle.gimli_lines_header.specs.SectionParts.{counted_part}
use Rattle.gimli_lines_header.specs.UnitHeaders.{DebugUnit, HeaderFields, unit, unit_in, unit_fields, fields_to_4, fields_of_5, unit_type, kind_of_type, compilation, units_to_come}
use Rattle.linemap_emit_parts.specs.declared.entries.Entry.{Entry}
use Rattle.linemap_emit_parts.specs.EmittedEntryRows.{spelled_entries}
use Rattle.linemap_emit_parts.specs.EmittedUnits.{IsWritten, spelled_fields, spelled_unit_body, spelled_unit, spelled_units, unit_for, units_for, IsSmall, AllSmall}
use Rattle.gimli_lines_write_bytes.proofs.FollowedReads.{Again, again_onward, again_then, again_same, again_fixed, one_byte, part_is, word_again, length_again}
use Rattle.gimli_lines_write_bytes.specs.NumberBytes.{length_limit, spelled_length}
use Rattle.gimli_lines_write_bytes.specs.BytesAt.{bytes_at}

-- ---- numbers

pub size_again : (is_big : Bool) (first n : ℕ) → is_address_size n ≡ true → n < 256
    → Again is_big first address_size n (n ∷ [])
unfolding address_size
size_again is_big first n is_size small = again_then _ (one_byte is_big first n small) (λ v. rw is_size refl)

-- ---- the fields

-- the fields after the length
abbrev fields_for : Encoding → HeaderFields
fields_for e = record { encoding = e; kind = compilation; abbrev_offset = 0 }

to_4_again : (limit : ℕ) (e : Encoding) (is_big : Bool) (first : ℕ) → 0 < limit → is_address_size e.address_size ≡ true
    → e.address_size < 256 → Again is_big first (fields_to_4 limit e.format e.version) (fields_for e)
    (number_bytes is_big (word_size e.format) 0 ++ e.address_size ∷ [])
unfolding fields_to_4
to_4_again limit e is_big first some is_size small =
    again_onward
    (λ o. address_size >>= λ size. give
    (record {
      encoding = record { address_size = size; format = e.format; version = e.version };
      kind = compilation;
      abbrev_offset = o;
    }))
    (word_again limit is_big first e.format 0 (zero_fits e.format) some)
    (again_then (λ size. give
    (record {
      encoding = record { address_size = size; format = e.format; version = e.version };
      kind = compilation;
      abbrev_offset = 0;
    }))
    (size_again is_big (first + length (number_bytes is_big (word_size e.format) 0)) e.address_size is_size small)
    (λ v. refl))
  where
    zero_fits : (format : Format) → 0 < 256 ^ word_size format
    zero_fits Dwarf32 = omega arith
    zero_fits Dwarf64 = omega arith

zero_word : (format : Format) → 0 < 256 ^ word_size format
zero_word Dwarf32 = omega arith
zero_word Dwarf64 = omega arith

compile_again : (is_big : Bool) (first : ℕ) → Again is_big first unit_type 1 (1 ∷ [])
unfolding unit_type
compile_again is_big first = again_then _ (one_byte is_big first 1 (omega arith)) (λ v. refl)

of_5_again : (limit : ℕ) (e : Encoding) (is_big : Bool) (first : ℕ) → 0 < limit → is_address_size e.address_size ≡ true
    → e.address_size < 256 → e.version ≡ 5
    → Again is_big first (fields_of_5 limit e.format) (fields_for e)
    (1 ∷ e.address_size ∷ number_bytes is_big (word_size e.format) 0)
unfolding fields_of_5 kind_of_type
of_5_again limit e is_big first some is_size small version =
    again_onward
    (λ t. address_size >>= λ size.
    (word limit e.format >>= λ o.
    (kind_of_type limit e.format t >>= λ kind. give
    (record {
      encoding = record { address_size = size; format = e.format; version = 5 };
      kind = kind;
      abbrev_offset = o;
    }))))
    (compile_again is_big first)
    (again_onward
    (λ size. word limit e.format >>= λ o.
    (kind_of_type limit e.format 1 >>= λ kind. give
    (record {
      encoding = record { address_size = size; format = e.format; version = 5 };
      kind = kind;
      abbrev_offset = o;
    })))
    (size_again is_big (first + 1) e.address_size is_size small)
    (again_then (λ o. kind_of_type limit e.format 1 >>= λ kind.
    give (record {
      encoding = record { address_size = e.address_size; format = e.format; version = 5 };
      kind = kind;
      abbrev_offset = o;
    }))
    (word_again limit is_big (first + 1 + 1) e.format 0 (zero_word e.format) some)
    (λ v. ap (λ (n : ℕ). Ok (
      record {
        encoding = record { address_size = e.address_size; format = e.format; version = n };
        kind = compilation;
        abbrev_offset = 0;
      },
      v,
    )) (sym version))))

fields_again : (limit : ℕ) (e : Encoding) (is_big : Bool) (first : ℕ) → 0 < limit → IsWritten e
    → Again is_big first (unit_fields limit e.format) (fields_for e) (spelled_fields e is_big)
unfolding unit_fields
fields_again limit e is_big first some w = by_version (nat_le e.version 4) refl
  where
    small : e.address_size < 256
    small = let few = at_most_eight e.address_size w.has_address_size in omega arith

    low : nat_le 2 e.version ≡ true
    low = le-leb 2 e.version w.not_before_2

    two : e.version < 256 ^ 2
    two = let high = w.not_after_5 in omega arith

    by_version : (b : Bool) → nat_le e.version 4 ≡ b
        → Again is_big first (unit_fields limit e.format) (fields_for e) (spelled_fields e is_big)
    by_version true earlier = rw earlier
        (again_onward _ (again_fixed is_big first 2 e.version two)
        (again_same (λ v. rw (low, earlier) refl)
        (to_4_again limit e is_big (first + length (number_bytes is_big 2 e.version)) some w.has_address_size small)))
    by_version false later =
        let above : 4 < e.version = leb-false e.version 4 later in
        let high = w.not_after_5 in
        let version : e.version ≡ 5 = omega arith in
        rw later (again_onward _ (again_fixed is_big first 2 e.version two)
        (again_same (λ v. rw (low, later, eq-eqb e.version 5 version) refl)
        (of_5_again limit e is_big (first + length (number_bytes is_big 2 e.version)) some w.has_address_size small
        version)))

-- ---- one unit

-- the bytes that the length counts
within_again : (limit offset : ℕ) (e : Encoding) (is_big : Bool) (first : ℕ) (xs : List Entry) → 0 < limit → IsWritten e
    → unit_in limit offset (length (spelled_unit_body e is_big xs)) e.format
    (bytes_at is_big first (spelled_unit_body e is_big xs)) ≡ Ok (
      record {
        offset = offset;
        unit_length = length (spelled_unit_body e is_big xs);
        encoding = e;
        kind = compilation;
        abbrev_offset = 0;
        entries = bytes_at is_big (first + length (spelled_fields e is_big)) (spelled_entries e is_big xs);
      },
      bytes_at is_big (first + length (spelled_fields e is_big)) (spelled_entries e is_big xs),
    )
unfolding unit_in
within_again limit offset e is_big first xs some w =
    ap (λ (r : Result (HeaderFields × View) Error). proceed r
    (λ f. here >>= λ entries. give
    (record {
      offset = offset;
      unit_length = length (spelled_unit_body e is_big xs);
      encoding = f.encoding;
      kind = f.kind;
      abbrev_offset = f.abbrev_offset;
      entries = entries;
    })))
    ((fields_again limit e is_big first some w).again (spelled_entries e is_big xs))

pub unit_again : (limit offset : ℕ) (e : Encoding) (is_big : Bool) (first : ℕ) (xs : List Entry) → IsWritten e
    → length (spelled_unit_body e is_big xs) < length_limit e.format → length (spelled_unit_body e is_big xs) < limit
    → Again is_big first (unit limit offset) (unit_for e is_big offset first xs) (spelled_unit e is_big xs)
unfolding counted_part
unit_again limit offset e is_big first xs w fits small =
    let n = length (spelled_unit_body e is_big xs) in
    let at = first + length (spelled_length e.format is_big n) in
    again_onward (λ l. part l.0 >>= λ bytes. within bytes (unit_in limit offset l.0 l.1))
    (length_again limit is_big first e.format n fits small)
    (again_then (λ bytes. within bytes (unit_in limit offset n e.format))
    (part_is is_big at (spelled_unit_body e is_big xs))
    (λ v. ap (λ (r : Result (DebugUnit × View) Error). lift (value_of r) v)
    (within_again limit offset e is_big at xs (omega arith) w)))

-- ---- the section

length_long : (format : Format) (is_big : Bool) (n : ℕ) → 4 ≤ length (spelled_length format is_big n)
length_long Dwarf32 is_big n = omega (arith, length-spelled is_big 4 n)
length_long Dwarf64 is_big n =
    omega (
      arith,
      length-append (number_bytes is_big 4 0xffffffff) (number_bytes is_big 8 n),
      length-spelled is_big 4 0xffffffff,
    )

unit_long : (e : Encoding) (is_big : Bool) (xs : List Entry) → 4 ≤ length (spelled_unit e is_big xs)
unit_long e is_big xs =
    let n = length (spelled_unit_body e is_big xs) in
    omega (
      arith,
      length_long e.format is_big n,
      length-append (spelled_length e.format is_big n) (spelled_unit_body e is_big xs),
    )

-- one unit, and what follows it
next_again : (limit total offset : ℕ) (e : Encoding) (is_big : Bool) (first : ℕ) (u : List Entry) (rest : List ℕ)
    → IsWritten e → IsSmall limit e is_big u → total ≡ offset + length (spelled_unit e is_big u ++ rest)
    → until_end (part_of (unit limit) total) (bytes_at is_big first (spelled_unit e is_big u ++ rest))
    ≡ Ok (Some (unit_for e is_big offset first u), bytes_at is_big (first + length (spelled_unit e is_big u)) rest)
next_again limit total offset e is_big first u rest w small whole =
    let string = spelled_unit e is_big u in
    let some : length (string ++ rest) ≢ 0 = omega (arith, unit_long e is_big u, length-append string rest) in
    let place : total - length (string ++ rest) ≡ offset = omega arith in
    ap (λ (b : Bool). cond {A = Result (Option DebugUnit × View) Error} b
    (Ok (None, bytes_at is_big first (string ++ rest)))
    (proceed (part_of (unit limit) total (bytes_at is_big first (string ++ rest))) (λ x. give (Some x))))
    (ne_eqb (length (string ++ rest)) 0 some)
    ∙ ap (λ (o : ℕ). proceed (unit limit o (bytes_at is_big first (string ++ rest))) (λ x. give (Some x))) place
    ∙ ap (λ (r : Result (DebugUnit × View) Error). proceed r (λ x. give (Some x)))
    ((unit_again limit offset e is_big first u w small.0 small.1).again rest)

-- units from an offset on, in a section with a number of bytes
pub units_from_again : (limit total offset : ℕ) (e : Encoding) (is_big : Bool) (first : ℕ) (us : List (List Entry))
    → IsWritten e → AllSmall limit e is_big us → total ≡ offset + length (spelled_units e is_big us)
    → (listing_in bytes_left (until_end (part_of (unit limit) total))
    (bytes_at is_big first (spelled_units e is_big us)))
    ≡ record {
      items = units_for e is_big offset first us;
      ending = Ok (bytes_at is_big (first + length (spelled_units e is_big us)) []);
    }
units_from_again limit total offset e is_big first [] w small whole =
    let same : first ≡ first + 0 = omega arith in
    listing_end (parts_shrink (units_are_parts limit) total) (bytes_at is_big first []) (bytes_at is_big first []) refl
    ∙ ap (λ (n : ℕ). record { items = []; ending = Ok (bytes_at is_big n []) }) same
units_from_again limit total offset e is_big first (u ∷ us) w small whole =
    let string = spelled_unit e is_big u in
    let rest = spelled_units e is_big us in
    let long = length-append string rest in
    let further : first + length string + length rest ≡ first + length (string ++ rest) = omega (arith, long) in
    listing_item (parts_shrink (units_are_parts limit) total) [] (unit_for e is_big offset first u)
    (bytes_at is_big first (string ++ rest)) (bytes_at is_big (first + length string) rest)
    (next_again limit total offset e is_big first u rest w small.0 whole)
    ∙ ap (λ (l : Listing View DebugUnit). prepend (unit_for e is_big offset first u ∷ []) l)
    (units_from_again limit total (offset + length string) e is_big (first + length string) us w small.1
    (omega (arith, long)))
    ∙ ap (λ (n : ℕ). record { items = units_for e is_big offset first (u ∷ us); ending = Ok (bytes_at is_big n []) })
    further

-- the units of a section
pub units_again : (limit : ℕ) (e : Encoding) (is_big : Bool) (first : ℕ) (us : List (List Entry)) → IsWritten e
    → AllSmall limit e is_big us
    → units_to_come limit (whole_section (bytes_at is_big first (spelled_units e is_big us)))
    ≡ record {
      items = units_for e is_big 0 first us;
      ending = Ok (bytes_at is_big (first + length (spelled_units e is_big us)) []);
    }
units_again limit e is_big first us w small =
    units_from_again limit (length (spelled_units e is_big us)) 0 e is_big first us w small (omega arith)
