-- The bytes of a table of range lists are read as the table.
use Rattle.std.proofs.Common.{◌≡◌, ℕ, ◌<◌, ◌≤◌, ◌+◌, Bool, true, false, cond, List, ◌∷◌, ◌++◌, length, Result, Ok, Err, refl, ap, ◌∙◌, arith, append_assoc}
use Rattle.std.specs.Prelude.{nat_lt, ◌==◌}
use Rattle.std.proofs.lemmas.List.{length-append, take_at}
use Rattle.std.proofs.lemmas.Bool.{eq-eqb, le-ltb, lt-leb}
use Rattle.linemap_emit_units.specs.Error.{Error}
use Rattle.linemap_emit_units.specs.Error.TheVariants.{UnsupportedSegmentSize}
use Rattle.linemap_emit_units.specs.View.{View, prefix, unexpected_end}
use Rattle.linemap_emit_units.specs.Parsers.{proceed, give, demand, truncate, ◌>>=◌}
use Rattle.linemap_emit_units.specs.Encoding.{Encoding}
use Rattle.linemap_emit_units.specs.Format.{Format}
use Rattle.linemap_emit_units.specs.Format.TheVariants.{Dwarf32, Dwarf64}
use Rattle.linemap_emit_units.specs.FormatSizes.{initial_length_size}
use Rattle.linemap_emit_units.specs.NumberParsers.{fixed, is_address_size, address_size, initial_length}
use Rattle.linemap_emit_units.specs.Fixed.{number_bytes}
use Rattle.linemap_emit_units.specs.NumberBytes.{length_limit, spelled_length}
use Rattle.linemap_emit_units.specs.BytesAt.{bytes_at}
use Rattle.linemap_emit_units.proofs.FollowedReads.{Again, again_onward, again_then, again_same, again_fixed, one_byte, length_again}
use Rattle.linemap_emit_units.proofs.UnitsRead.{size_again}
use Rattle.linemap_emit_units.proofs.NumberRoundTrip.{length-spelled}
use Rattle.linemap_emit_units.proofs.Wrapping.{at_most_eight}
use Rattle.linemap_emit_units.specs.ListSections.{lists_header, header_fields}
use Rattle.linemap_emit_units.specs.EmittedRanges.{lists_start, spelled_lists}
use Rattle.linemap_emit_units.specs.EmittedUnits.{IsWritten}

-- ---- the fields after the length

-- the bytes of the fields
abbrev spelled_fields : Encoding → Bool → List ℕ
spelled_fields e is_big = number_bytes is_big 2 e.version ++ (e.address_size ∷ 0 ∷ number_bytes is_big 4 0)

fields_again : (e : Encoding) (is_big : Bool) (first : ℕ) → is_address_size e.address_size ≡ true → e.address_size < 256
    → e.version ≡ 5
    → Again is_big first (header_fields e.format) (record { encoding = e; offset_entry_count = 0 })
    (spelled_fields e is_big)
unfolding header_fields
fields_again e is_big first is_size small version =
    let at = first + length (number_bytes is_big 2 e.version) in
    again_onward _ (again_fixed is_big first 2 e.version (omega arith))
    (again_same (λ v. rw (eq-eqb e.version 5 version) refl)
    (again_onward
    (λ size. fixed 1 >>= λ segment.
    (demand (segment == 0) UnsupportedSegmentSize >>= λ flat.
    (fixed 4 >>= λ count. give
    (record {
      encoding = record { format = e.format; version = e.version; address_size = size };
      offset_entry_count = count;
    }))))
    (size_again is_big at e.address_size is_size small)
    (again_onward
    (λ segment. demand (segment == 0) UnsupportedSegmentSize >>= λ flat.
    (fixed 4 >>= λ count. give
    (record {
      encoding = record { format = e.format; version = e.version; address_size = e.address_size };
      offset_entry_count = count;
    })))
    (one_byte is_big (at + 1) 0 (omega arith))
    (again_then (λ count. give
    (record {
      encoding = record { format = e.format; version = e.version; address_size = e.address_size };
      offset_entry_count = count;
    }))
    (again_fixed is_big (at + 1 + 1) 4 0 (omega arith)) (λ v. refl)))))

fields_long : (e : Encoding) (is_big : Bool) → length (spelled_fields e is_big) ≡ 8
fields_long e is_big =
    omega (
      arith,
      length-append (number_bytes is_big 2 e.version) (e.address_size ∷ 0 ∷ number_bytes is_big 4 0),
      length-spelled is_big 2 e.version,
      length-spelled is_big 4 0,
    )

-- ---- the table

-- a value, and bytes that are left at a place
abbrev left_at : {A : Type 0} → Bool → A → List ℕ → ℕ → Result (A × View) Error
left_at is_big x rest n = Ok (x, bytes_at is_big n rest)

-- the fields and the lists, in a table of this size
within_again : (e : Encoding) (is_big : Bool) (first n : ℕ) (lists rest : List ℕ)
    → is_address_size e.address_size ≡ true → e.address_size < 256 → e.version ≡ 5 → n ≡ 8 + length lists
    → proceed (truncate n (bytes_at is_big first ((spelled_fields e is_big ++ lists) ++ rest)))
    (λ cut. header_fields e.format)
    ≡ Ok (record { encoding = e; offset_entry_count = 0 }, bytes_at is_big (first + 8) lists)
within_again e is_big first n lists rest is_size small version whole =
    let body = spelled_fields e is_big ++ lists in
    let v = bytes_at is_big first (body ++ rest) in
    let long : length body ≡ n = omega (arith, fields_long e is_big, length-append (spelled_fields e is_big) lists) in
    let enough_bytes : n ≤ length (body ++ rest) = omega (arith, length-append body rest) in
    let enough : nat_lt (length (body ++ rest)) n ≡ false =
    le-ltb _ _ enough_bytes in
    ap (λ (b : Bool).
    proceed (cond {A = Result (Unit {0} × View) Error} b (Err (unexpected_end v)) (Ok (tt, prefix n v)))
    (λ cut. header_fields e.format)) enough
    ∙ ap (λ (bytes : List ℕ). header_fields e.format (bytes_at is_big first bytes)) (take_at body rest n long)
    ∙ (fields_again e is_big first is_size small version).again lists
    ∙ ap (left_at is_big _ lists) (omega (arith, fields_long e is_big))

start_is : (format : Format) (is_big : Bool) (n : ℕ)
    → length (spelled_length format is_big n) ≡ initial_length_size format
start_is Dwarf32 is_big n = length-spelled is_big 4 n
start_is Dwarf64 is_big n =
    omega (
      arith,
      length-append (number_bytes is_big 4 0xffffffff) (number_bytes is_big 8 n),
      length-spelled is_big 4 0xffffffff,
      length-spelled is_big 8 n,
    )

-- the bytes of the section
spelled_table : (e : Encoding) (is_big : Bool) (lists rest : List ℕ) → 4 < e.version
    → spelled_lists e is_big lists ++ rest
    ≡ spelled_length e.format is_big (8 + length lists) ++ ((spelled_fields e is_big ++ lists) ++ rest)
spelled_table e is_big lists rest later =
    let string = spelled_length e.format is_big (8 + length lists) in
    rw (lt-leb e.version 4 later)
    (ap (λ (bytes : List ℕ). bytes ++ rest) (append_assoc string (spelled_fields e is_big) lists)
    ∙ append_assoc string (spelled_fields e is_big ++ lists) rest)

start_of : (e : Encoding) → 4 < e.version → lists_start e ≡ initial_length_size e.format + 8
start_of e later = rw (lt-leb e.version 4 later) refl

pub table_again : (limit : ℕ) (e : Encoding) (is_big : Bool) (first : ℕ) (lists rest : List ℕ) → IsWritten e
    → 4 < e.version → 8 + length lists < length_limit e.format → 8 + length lists < limit
    → lists_header limit (bytes_at is_big first (spelled_lists e is_big lists ++ rest))
    ≡ Ok (record { encoding = e; offset_entry_count = 0 }, bytes_at is_big (first + lists_start e) lists)
unfolding lists_header
table_again limit e is_big first lists rest w later fits small =
    let n = 8 + length lists in
    let high = w.not_after_5 in
    let version : e.version ≡ 5 = omega arith in
    let few = at_most_eight e.address_size w.has_address_size in
    let body = (spelled_fields e is_big ++ lists) ++ rest in
    let at = first + length (spelled_length e.format is_big n) in
    ap (λ (bytes : List ℕ). proceed (initial_length limit (bytes_at is_big first bytes))
    (λ table. truncate table.0 >>= λ cut. header_fields table.1)) (spelled_table e is_big lists rest later)
    ∙ ap (λ (r : Result ((ℕ × Format) × View) Error). proceed r
    (λ table. truncate table.0 >>= λ cut. header_fields table.1))
    ((length_again limit is_big first e.format n fits small).again body)
    ∙ within_again e is_big at n lists rest w.has_address_size (omega arith) version refl
    ∙ ap (left_at is_big _ lists) (omega (arith, start_is e.format is_big n, start_of e later))
