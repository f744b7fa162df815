-- What contracts see of a header's bounds, which are known before its fields.
use Rattle.std.specs.Prelude.{ℕ}
use Rattle.gimli_units_headers.specs.View.{View}
use Rattle.gimli_lines_header.specs.HeaderParsing as parsing
use Rattle.gimli_lines_header.specs.declared.parsing.Bounds.{Bounds}

-- the bounds that a reader has found
abbrev pub bounds_of : {R E O : Type 0} → (R → View) → (O → ℕ) → Bounds R E O
    → parsing.Bounds
bounds_of view count b = record {
  offset = count b.offset.0;
  unit_length = count b.unit_length;
  encoding = b.encoding;
  header_length = count b.header_length;
  program = view b.program;
}
