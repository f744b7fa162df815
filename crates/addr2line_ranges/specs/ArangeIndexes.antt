-- The ranges of `.debug_aranges` by the offsets of their units (DWARF 5, 6.1.2).
use Rattle.std.specs.Prelude.{◌≡◌, ℕ, ◌≤◌, ◌==◌, nat_lt, Bool, List, [], ◌∷◌, map, filter, flat_map, Option, option_map, Result}
use Rattle.std.specs.List.{filter_map}
use Rattle.gimli_lines_rows.specs.Error.{Error}
use Rattle.gimli_lines_rows.specs.Range.{Range}
use Rattle.gimli_lines_rows.specs.Repetition.{fault_of}
use Rattle.gimli_lines_rows.specs.Tiling.{whole_section}
use Rattle.gimli_lines_rows.specs.ArangeSets.{ArangeSet, ArangePair, RemainingPairs, pairs_of, aranges_to_come, sets_to_come}
use Rattle.gimli_dwarf.specs.DwarfFiles.{DwarfFile}
use Rattle.addr2line_index.specs.UnitRanges.{range_of_arange, ranges_of_aranges}
use Rattle.addr2line_ranges.specs.declared.unit_arange.UnitArange.{UnitArange}

-- ---- sets

-- the range of an entry, with the offset of its unit; none where it is empty or refused
abbrev pub arange_at : ℕ → Result ArangePair Error → Option UnitArange
arange_at offset p = option_map (λ r. record { offset = offset; range = r }) (range_of_arange p)

-- those of a set of the unit at an offset, from one of its pairs on
abbrev pub aranges_from : ℕ → RemainingPairs → List UnitArange
aranges_from offset pairs = filter_map (arange_at offset) (aranges_to_come pairs)

-- those of sets
abbrev pub aranges_of_sets : List ArangeSet → List UnitArange
aranges_of_sets sets = flat_map (λ set. aranges_from set.info_offset (pairs_of set)) sets

-- ---- the index

-- ranges with their units' offsets, and why a set can't be read, if one can't
pub record AddressRanges : Type 0 where
  pub entries : List UnitArange
  pub fault : Option Error

-- the ranges of the unit at an offset
abbrev pub ranges_at : ℕ → List UnitArange → List Range
ranges_at offset entries =
    map (λ a. a.range) (filter (λ (a : UnitArange). a.offset == offset) entries)

-- it has the address ranges of each unit of a file
abbrev pub IsIndexOf : DwarfFile → AddressRanges → Type 0
IsIndexOf file index =
    (offset : ℕ) → ranges_at offset index.entries ≡ ranges_of_aranges file offset

-- why a set of a file can't be read, if one can't
abbrev pub fault_of_sets : DwarfFile → Option Error
fault_of_sets file =
    fault_of (sets_to_come file.offset_limit (whole_section file.sections.debug_aranges))

-- ---- order

abbrev pub offset_of : UnitArange → ℕ
offset_of a = a.offset

-- the unit is below an offset
abbrev pub is_below : ℕ → UnitArange → Bool
is_below offset a = nat_lt a.offset offset

-- the first is at or above an offset, and each other at or above the one before it
abbrev pub AscendsFrom : ℕ → List UnitArange → Type 0
AscendsFrom low [] = Unit {0}
AscendsFrom low (a ∷ rest) = (low ≤ a.offset) × AscendsFrom a.offset rest
