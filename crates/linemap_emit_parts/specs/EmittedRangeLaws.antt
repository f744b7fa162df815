-- Range lists that are written are read again.
use Rattle.std.specs.Prelude.{◌≡◌, ℕ, Bool, true, List, ◌++◌, map, Ok}
use Rattle.gimli_lines_write_bytes.specs.View.{View}
use Rattle.gimli_lines_write_bytes.specs.Encoding.{Encoding}
use Rattle.gimli_lines_write_bytes.specs.NumberParsers.{is_address_size}
use Rattle.gimli_units_lists.specs.Range.{Range}
use Rattle.gimli_units_lists.specs.ListSections.{RemainingRanges, ranges_to_come, from_low_pc}
use Rattle.linemap_emit_parts.specs.EmittedRanges.{AllWritable, spelled_ranges}

-- a list that is read from some bytes on, against the base 0
abbrev pub left_from : Encoding → ℕ → View → View → RemainingRanges
left_from e addr_base addresses left =
    record {
      raw = record { encoding = e; rest = left };
      against = from_low_pc e 0 addr_base addresses;
    }

-- a list before other bytes is read as its ranges
abbrev pub RangesAgain : Type 0
RangesAgain =
    (limit : ℕ) (e : Encoding) (is_big : Bool) (first addr_base : ℕ) (addresses : View)
    (rs : List Range) (rest : List ℕ)
    → is_address_size e.address_size ≡ true → AllWritable e.address_size rs
    → ranges_to_come limit
    (left_from e addr_base addresses
    (record { bytes = spelled_ranges e is_big rs ++ rest; is_big = is_big; first = first }))
    ≡ map (λ r. Ok r) rs
