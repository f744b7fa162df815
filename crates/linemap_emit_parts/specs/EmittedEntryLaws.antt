-- Declarations, entries and units that are written are read again.
use Rattle.std.specs.Prelude.{◌≡◌, ℕ, ℤ, pos, ◌-◌, ◌+◌, Bool, List, [], ◌∷◌, ◌++◌, All, length, map, Some, Ok}
use Rattle.gimli_lines_write_bytes.specs.Encoding.{Encoding}
use Rattle.gimli_lines_header.specs.TableParsing.{table_at}
use Rattle.gimli_lines_header.specs.Tiling.{whole_section}
use Rattle.gimli_lines_header.specs.UnitHeaders.{length_including_self, units_to_come}
use Rattle.gimli_units_entries.specs.EntryWalks.{depth_after}
use Rattle.gimli_units_entries.specs.EntryRows.{row, rows}
use Rattle.gimli_units_entries.specs.EntryLaws.{row_under_choice}
use Rattle.gimli_units_entries.specs.UnitEntries.{walk_from}
use Rattle.linemap_emit_parts.specs.declared.entries.Entry.{Entry}
use Rattle.linemap_emit_parts.specs.EmittedEntries.{AllFit, attributes_of, declaration_of, declarations, spelled_declarations, spelled_entry}
use Rattle.linemap_emit_parts.specs.EmittedEntryRows.{walk_at, row_for, spelled_entries, depth_after_entries, place_before, rows_for}
use Rattle.gimli_lines_write_bytes.specs.BytesAt.{bytes_at}
use Rattle.linemap_emit_parts.specs.EmittedUnits.{IsWritten, AllSmall, spelled_units, unit_for, units_for}

-- the declarations, as their table
abbrev pub DeclarationsAgain : Type 0
DeclarationsAgain =
    (e : Encoding) (is_big : Bool) (first : ℕ)
    → table_at 0 (bytes_at is_big first (spelled_declarations e)) ≡ Ok (declarations e)

-- an entry before other bytes: its row, whose offset the bytes to come give, and the walk after it
abbrev pub RowAgain : Type 0
RowAgain =
    (limit : ℕ) (e : Encoding) (end_offset : ℕ) (depth : ℤ) (is_big : Bool) (first : ℕ)
    (x : Entry)
    (rest : List ℕ)
    → IsWritten e → AllFit limit e (attributes_of x)
    → row limit (walk_at e end_offset depth
    (bytes_at is_big first (spelled_entry e is_big x ++ rest)))
    ≡ Ok (
      row_for e (end_offset - length (spelled_entry e is_big x ++ rest)) depth x,
      walk_at e end_offset (depth_after depth (declaration_of e x))
          (bytes_at is_big (first + length (spelled_entry e is_big x)) rest),
    )

-- the values of several entries fit their bytes
abbrev pub AllEntriesFit : ℕ → Encoding → List Entry → Type 0
AllEntriesFit limit e xs = All (λ x. AllFit limit e (attributes_of x)) xs

-- entries up to the end of a unit: their rows, where the attributes of some tags are read
abbrev pub RowsAgain : Type 0
RowsAgain =
    (limit : ℕ) (choice : ℕ → Bool) (e : Encoding) (end_offset : ℕ) (depth : ℤ) (is_big : Bool)
    (first : ℕ) (xs : List Entry)
    → IsWritten e → AllEntriesFit limit e xs
    → rows limit choice (walk_at e end_offset depth
    (bytes_at is_big first (spelled_entries e is_big xs)))
    ≡ record {
      items = map (row_under_choice choice) (rows_for e is_big end_offset depth xs);
      ending = Ok (walk_at e end_offset (depth_after_entries e depth xs)
          (bytes_at is_big (first + length (spelled_entries e is_big xs)) []));
    }

-- the walk from where an entry of a unit begins is before it and those after it
abbrev pub WalkAgain : Type 0
WalkAgain =
    (e : Encoding) (is_big : Bool) (offset first : ℕ) (before : List Entry) (x : Entry)
    (rest : List Entry)
    → let u = unit_for e is_big offset first (before ++ x ∷ rest) in
    let end_offset = length_including_self u in
    walk_from u (declarations e) (Some (place_before e is_big end_offset (x ∷ rest)))
    ≡ Ok (walk_at e end_offset (pos 0)
    (bytes_at is_big (u.entries.first + length (spelled_entries e is_big before))
    (spelled_entries e is_big (x ∷ rest))))

-- the units of a section
abbrev pub UnitsAgain : Type 0
UnitsAgain =
    (limit : ℕ) (e : Encoding) (is_big : Bool) (first : ℕ) (us : List (List Entry))
    → IsWritten e → AllSmall limit e is_big us
    → units_to_come limit (whole_section (bytes_at is_big first (spelled_units e is_big us)))
    ≡ record {
      items = units_for e is_big 0 first us;
      ending = Ok (bytes_at is_big (first + length (spelled_units e is_big us)) []);
    }
