-- The bytes of a unit's entries are read as their rows, from each entry on.
use Rattle.std.proofs.Common.{◌≡◌, ℕ, ◌<◌, ◌≤◌, ◌+◌, ◌-◌, Bool, true, false, List, [], ◌∷◌, ◌++◌, length, drop, map, Some, Ok, refl, sym, ap, subst, ◌∙◌, arith}
use Rattle.std.specs.Prelude.{flat_map, ℤ, pos, nat_le, nat_lt}
use Rattle.std.proofs.lemmas.Bool.{and_from, le-leb, lt-ltb}
use Rattle.std.proofs.lemmas.List.{length-append}
use Rattle.std.proofs.lemmas.List.Concat.{flat_map-append}
use Rattle.std.proofs.lemmas.List.Elements.{All-head, All-tail}
use Rattle.std.proofs.Math.Seq.{drop-append_seam}
use Rattle.gimli_lines_write_bytes.specs.View.{after}
use Rattle.gimli_lines_write_bytes.specs.Encoding.{Encoding}
use Rattle.gimli_lines_write_bytes.specs.FormatSizes.{initial_length_size, word_size}
use Rattle.gimli_lines_write_bytes.specs.Fixed.{number_bytes}
use Rattle.gimli_lines_write_bytes.proofs.NumberRoundTrip.{length-spelled}
use Rattle.gimli_lines_write_bytes.specs.NumberParsers.{is_address_size}
use Rattle.gimli_lines_write_bytes.specs.Repetition.{Listing, prepend}
use Rattle.gimli_lines_write_bytes.specs.Spelling.{unsigned_string, unsigned_within}
use Rattle.gimli_lines_header.specs.UnitHeaders.{DebugUnit, header_size, length_including_self}
use Rattle.gimli_lines_header.specs.UnitOffsets.{if_in_bounds, is_in_bounds}
use Rattle.gimli_units_entries.specs.EntryWalks.{Walk, depth_after}
use Rattle.gimli_units_entries.specs.EntryRows.{Row, rows}
use Rattle.gimli_units_entries.specs.EntryLaws.{row_under_choice}
use Rattle.gimli_units_entries.specs.UnitEntries.{walk_from, walk_of}
use Rattle.gimli_units_entries.proofs.RowLaws.{row-choice}
use Rattle.gimli_units_entries.proofs.RowSteps.{rows-next, rows-end}
use Rattle.linemap_emit_parts.specs.declared.entries.Entry.{Entry}
use Rattle.linemap_emit_parts.specs.declared.entries.Entry.TheVariants.{CompileUnit, AbstractFunction, Function, Call, EndOfChildren}
use Rattle.linemap_emit_parts.specs.EmittedEntries.{AllFit, attributes_of, declaration_of, declarations, spelled_entry, spelled_value, abbreviation_code}
use Rattle.linemap_emit_parts.specs.EmittedEntryRows.{walk_at, row_for, spelled_entries, depth_after_entries, place_before, rows_for}
use Rattle.linemap_emit_parts.specs.EmittedUnits.{spelled_fields, unit_for, entries_start}
use Rattle.linemap_emit_parts.specs.EmittedEntryLaws.{AllEntriesFit}
use Rattle.linemap_emit_parts.proofs.EntryRowsRead.{row_again}
use Rattle.gimli_lines_write_bytes.specs.BytesAt.{bytes_at}

-- ---- all rows

-- the row of the first entry
abbrev first_row : Encoding → Bool → ℕ → ℤ → Entry → List Entry → Row
first_row e is_big end_offset depth x xs = row_for e (place_before e is_big end_offset (x ∷ xs)) depth x

pub rows_again : (limit : ℕ) (choice : ℕ → Bool) (e : Encoding) (end_offset : ℕ) (depth : ℤ) (is_big : Bool)
    (first : ℕ) (xs : List Entry) → is_address_size e.address_size ≡ true → AllEntriesFit limit e xs
    → rows limit choice (walk_at e end_offset depth (bytes_at is_big first (spelled_entries e is_big xs)))
    ≡ record {
      items = map (row_under_choice choice) (rows_for e is_big end_offset depth xs);
      ending = Ok (walk_at e end_offset (depth_after_entries e depth xs)
          (bytes_at is_big (first + length (spelled_entries e is_big xs)) []));
    }
rows_again limit choice e end_offset depth is_big first [] is_size fit =
    let same : first ≡ first + 0 = omega arith in
    rows-end limit choice (walk_at e end_offset depth (bytes_at is_big first [])) refl
    ∙ ap (λ (n : ℕ). record { items = []; ending = Ok (walk_at e end_offset depth (bytes_at is_big n [])) }) same
rows_again limit choice e end_offset depth is_big first (x ∷ xs) is_size fit =
    let string = spelled_entry e is_big x in
    let rest = spelled_entries e is_big xs in
    let w = walk_at e end_offset depth (bytes_at is_big first (string ++ rest)) in
    let deep = depth_after depth (declaration_of e x) in
    let t = walk_at e end_offset deep (bytes_at is_big (first + length string) rest) in
    let r = first_row e is_big end_offset depth x xs in
    let long : first + length string + length rest ≡ first + length (string ++ rest) =
    omega (arith, length-append string rest) in
    rows-next limit choice w t (row_under_choice choice r) (row-choice limit choice w t r
    (row_again limit e end_offset depth is_big first x rest is_size
    (All-head (λ y. AllFit limit e (attributes_of y)) x xs fit)))
    ∙ ap (λ (l : Listing Walk Row). prepend (row_under_choice choice r ∷ []) l)
    (rows_again limit choice e end_offset deep is_big (first + length string) xs is_size
    (All-tail (λ y. AllFit limit e (attributes_of y)) x xs fit))
    ∙ ap (λ (n : ℕ). record {
      items = map (row_under_choice choice) (rows_for e is_big end_offset depth (x ∷ xs));
      ending = Ok (walk_at e end_offset (depth_after_entries e deep xs) (bytes_at is_big n []));
    }) long

-- ---- a walk from an entry on

-- an entry takes a byte at least
pub entry_takes : (e : Encoding) (is_big : Bool) (x : Entry) → 0 < length (spelled_entry e is_big x)
unfolding unsigned_within
entry_takes e is_big x =
    let values_of = flat_map (λ s. spelled_value e is_big s.value) (attributes_of x) in
    let code = some_code x in
    omega (arith, length-append (unsigned_string (abbreviation_code x)) values_of)
  where
    some_code : (y : Entry) → 0 < length (unsigned_string (abbreviation_code y))
    some_code (CompileUnit name directory line_program ranges) = omega arith
    some_code (Function true name ranges) = omega arith
    some_code (Function false name ranges) = omega arith
    some_code (Call true origin ranges file line column) = omega arith
    some_code (Call false origin ranges file line column) = omega arith
    some_code (AbstractFunction name) = omega arith
    some_code EndOfChildren = omega arith

pub walk_again : (e : Encoding) (is_big : Bool) (offset first : ℕ) (before : List Entry) (x : Entry)
    (rest : List Entry)
    → walk_from (unit_for e is_big offset first (before ++ x ∷ rest)) (declarations e)
    (Some (place_before e is_big (length_including_self (unit_for e is_big offset first (before ++ x ∷ rest)))
    (x ∷ rest)))
    ≡ Ok (walk_at e (length_including_self (unit_for e is_big offset first (before ++ x ∷ rest))) (pos 0)
    (bytes_at is_big
    ((unit_for e is_big offset first (before ++ x ∷ rest)).entries.first + length (spelled_entries e is_big before))
    (spelled_entries e is_big (x ∷ rest))))
walk_again e is_big offset first before x rest =
    ap (λ b. walk_of u (declarations e) (if_in_bounds b (after (place - header_size u) u.entries))) within
    ∙ ap (λ (n : ℕ). walk_of u (declarations e) (Ok (after n u.entries))) gone
    ∙ ap (λ (bytes : List ℕ). Ok (walk_at e end_offset (pos 0)
    (bytes_at is_big (u.entries.first + length front) (drop (length front) bytes)))) whole
    ∙ ap (λ (bytes : List ℕ). Ok (walk_at e end_offset (pos 0)
    (bytes_at is_big (u.entries.first + length front) bytes))) (drop-append_seam front back)
  where
    u : DebugUnit
    u = unit_for e is_big offset first (before ++ x ∷ rest)

    front : List ℕ
    front = spelled_entries e is_big before

    back : List ℕ
    back = spelled_entries e is_big (x ∷ rest)

    end_offset : ℕ
    end_offset = length_including_self u

    place : ℕ
    place = place_before e is_big end_offset (x ∷ rest)

    whole : spelled_entries e is_big (before ++ x ∷ rest) ≡ front ++ back
    whole = flat_map-append (spelled_entry e is_big) before (x ∷ rest)

    sizes : length (spelled_entries e is_big (before ++ x ∷ rest)) ≡ length front + length back
    sizes = ap length whole ∙ length-append front back

    some : 0 < length back
    some = omega (
      arith,
      entry_takes e is_big x,
      length-append (spelled_entry e is_big x) (spelled_entries e is_big rest),
    )

    enough : length (spelled_entries e is_big (before ++ x ∷ rest)) ≤ end_offset
    enough = omega (
      arith,
      length-append (spelled_fields e is_big) (spelled_entries e is_big (before ++ x ∷ rest)),
    )

    gone : place - header_size u ≡ length front
    gone = omega (arith, sizes, some, enough)

    within : is_in_bounds u place ≡ true
    within =
        let low : header_size u ≤ place = omega (arith, sizes, some, enough) in
        let high : place < end_offset = omega (arith, sizes, some, enough) in
        and_from (nat_le (header_size u) place) (nat_lt place (length_including_self u))
        (le-leb (header_size u) place low) (lt-ltb place (length_including_self u) high)

-- ---- where entries begin

-- the bytes of a unit before its entries
pub header_is : (e : Encoding) (is_big : Bool)
    → initial_length_size e.format + length (spelled_fields e is_big) ≡ entries_start e
header_is e is_big = by_version (nat_le e.version 4) refl
  where
    two : length (number_bytes is_big 2 e.version) ≡ 2
    two = length-spelled is_big 2 e.version

    word : length (number_bytes is_big (word_size e.format) 0) ≡ word_size e.format
    word = length-spelled is_big (word_size e.format) 0

    by_version : (b : Bool) → nat_le e.version 4 ≡ b
        → initial_length_size e.format + length (spelled_fields e is_big) ≡ entries_start e
    by_version true old =
        rw old (omega (
          arith,
          two,
          word,
          length-append (number_bytes is_big (word_size e.format) 0) (e.address_size ∷ []),
          length-append (number_bytes is_big 2 e.version)
              (number_bytes is_big (word_size e.format) 0 ++ e.address_size ∷ []),
        ))
    by_version false later =
        rw later (omega (
          arith,
          two,
          word,
          length-append (number_bytes is_big 2 e.version)
              (1 ∷ e.address_size ∷ number_bytes is_big (word_size e.format) 0),
        ))

-- an entry after others, by the bytes before it and by those up to the end
pub place_is : (e : Encoding) (is_big : Bool) (offset first : ℕ) (before rest : List Entry)
    → entries_start e + length (spelled_entries e is_big before)
    ≡ place_before e is_big (length_including_self (unit_for e is_big offset first (before ++ rest))) rest
place_is e is_big offset first before rest =
    let whole = flat_map-append (spelled_entry e is_big) before rest in
    omega (
      arith,
      header_is e is_big,
      ap length whole ∙ length-append (spelled_entries e is_big before) (spelled_entries e is_big rest),
      length-append (spelled_fields e is_big) (spelled_entries e is_big (before ++ rest)),
    )

-- the walk from an entry on, where it is after others
pub walk_to : (e : Encoding) (is_big : Bool) (offset first : ℕ) (all before : List Entry) (x : Entry)
    (rest : List Entry) → all ≡ before ++ x ∷ rest
    → walk_from (unit_for e is_big offset first all) (declarations e)
    (Some (place_before e is_big (length_including_self (unit_for e is_big offset first all)) (x ∷ rest)))
    ≡ Ok (walk_at e (length_including_self (unit_for e is_big offset first all)) (pos 0)
    (bytes_at is_big
    ((unit_for e is_big offset first all).entries.first + length (spelled_entries e is_big before))
    (spelled_entries e is_big (x ∷ rest))))
walk_to e is_big offset first all before x rest are =
    subst (λ (ys : List Entry). walk_from (unit_for e is_big offset first ys) (declarations e)
    (Some (place_before e is_big (length_including_self (unit_for e is_big offset first ys)) (x ∷ rest)))
    ≡ Ok (walk_at e (length_including_self (unit_for e is_big offset first ys)) (pos 0)
    (bytes_at is_big
    ((unit_for e is_big offset first ys).entries.first + length (spelled_entries e is_big before))
    (spelled_entries e is_big (x ∷ rest))))) (sym are) (walk_again e is_big offset first before x rest)
