-- The rows that written entries are read as.
use Rattle.std.specs.Prelude.{ℕ, ℤ, ◌-◌, Bool, List, [], ◌∷◌, length, map, flat_map}
use Rattle.gimli_lines_write_bytes.specs.View.{View}
use Rattle.gimli_lines_write_bytes.specs.Encoding.{Encoding}
use Rattle.gimli_units_entries.specs.EntryWalks.{Walk, depth_after}
use Rattle.gimli_units_entries.specs.EntryRows.{Row, row_of}
use Rattle.linemap_emit_parts.specs.declared.entries.Entry.{Entry}
use Rattle.linemap_emit_parts.specs.EmittedEntries.{declarations, declaration_of, attributes_of, raw_attribute_of, spelled_entry}

-- a walk of a unit that ends at an offset, before some of its bytes
abbrev pub walk_at : Encoding → ℕ → ℤ → View → Walk
walk_at e end_offset depth left =
    record {
      encoding = e;
      table = declarations e;
      end_offset = end_offset;
      depth = depth;
      rest = left;
    }

-- the row of an entry at a place
abbrev pub row_for : Encoding → ℕ → ℤ → Entry → Row
row_for e offset depth x =
    row_of offset depth (declaration_of e x) (map (raw_attribute_of e) (attributes_of x))

-- the bytes of entries, one after the other
abbrev pub spelled_entries : Encoding → Bool → List Entry → List ℕ
spelled_entries e is_big xs = flat_map (spelled_entry e is_big) xs

-- the depth after entries
abbrev pub depth_after_entries : Encoding → ℤ → List Entry → ℤ
depth_after_entries e depth [] = depth
depth_after_entries e depth (x ∷ xs) =
    depth_after_entries e (depth_after depth (declaration_of e x)) xs

-- where in a unit entries begin, the last of which ends at an offset
abbrev pub place_before : Encoding → Bool → ℕ → List Entry → ℕ
place_before e is_big end_offset xs = end_offset - length (spelled_entries e is_big xs)

-- their rows
abbrev pub rows_for : Encoding → Bool → ℕ → ℤ → List Entry → List Row
rows_for e is_big end_offset depth [] = []
rows_for e is_big end_offset depth (x ∷ xs) =
    row_for e (place_before e is_big end_offset (x ∷ xs)) depth x
    ∷ rows_for e is_big end_offset (depth_after depth (declaration_of e x)) xs
