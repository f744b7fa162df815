-- What the header of a line number program takes of the unit that names it: its directory and its name alone.
use Rattle.std.proofs.Common.{◌≡◌, ℕ, option_map, Result, Ok, sym, ◌∙◌, arith}
use Rattle.addr2line_ranges.specs.Error.{Error}
use Rattle.addr2line_ranges.specs.View.{View}
use Rattle.addr2line_ranges.specs.Results.{and_then}
use Rattle.addr2line_ranges.specs.AttributeValues.{string}
use Rattle.addr2line_ranges.specs.LineFiles.{file_named}
use Rattle.addr2line_ranges.specs.LineHeaders.{LineHeader}
use Rattle.addr2line_ranges.specs.HeaderParsing.{LineUnit, Bounds, header_fields, header_in, line_header, header_at}

-- a header at an offset as another unit has it
abbrev pub with_unit : ℕ → LineUnit → LineHeader → LineHeader
with_unit offset unit h = record h {
  offset = offset;
  unit_directory = option_map string unit.directory;
  unit_file = option_map file_named unit.name;
}

-- a step whose value is the other's, changed
abbrev changed : {S : Type 0} → (LineHeader → LineHeader) → Result (LineHeader × S) Error
    → Result (LineHeader × S) Error
changed f r = and_then r (λ x. Ok (f x.0, x.1))

abbrev pub found : LineHeader → Result LineHeader Error
found h = Ok h

module _ (limit offset : ℕ) (old new : LineUnit) where
  same_fields : (b : Bounds) (v : View) → b.offset ≡ offset
      → header_fields limit new.directory new.name b v
      ≡ changed (with_unit offset new) (header_fields limit old.directory old.name b v)
  unfolding header_fields
  same_fields b v at = rw at (grind arith)

  module _ (same : new.address_bytes ≡ old.address_bytes) where
    same_header : (unit_length : ℕ) (format : _) (v : View)
        → header_in limit offset new unit_length format v
        ≡ changed (with_unit offset new) (header_in limit offset old unit_length format v)
    unfolding header_in
    same_header unit_length format v = rw same (grind (arith, same_fields))

    same_line_header : (v : View)
        → line_header limit offset new v ≡ changed (with_unit offset new) (line_header limit offset old v)
    unfolding line_header
    same_line_header v = grind (arith, same_header)

    header_of_other : (section : View) (h : LineHeader) → header_at limit offset old section ≡ found h
        → header_at limit offset new section ≡ found (with_unit offset new h)
    header_of_other section h read = grind (arith, same_line_header, read)

    -- two units have the same header at an offset, but for what it takes of them
    pub header_with_unit : (section : View) (h k : LineHeader) → header_at limit offset old section ≡ found h
        → header_at limit offset new section ≡ found k → k ≡ with_unit offset new h
    header_with_unit section h k is is_new =
        let both : found k ≡ found (with_unit offset new h) = sym is_new ∙ header_of_other section h is in cc
