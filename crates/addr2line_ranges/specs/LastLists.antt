-- The range list that was read last: its ranges are those of any list that depends on the same.
use Rattle.std.specs.Prelude.{◌≡◌, ℕ, List, Option, Some, None, Result, Ok, IfSome}
use Rattle.gimli_lines_rows.specs.Error.{Error}
use Rattle.gimli_lines_rows.specs.Range.{Range}
use Rattle.gimli_lines_rows.specs.Results.{and_then}
use Rattle.gimli_dwarf.specs.Attributes.{Bases, ranges_of_list}
use Rattle.gimli_dwarf.specs.DwarfFiles.{DwarfFile}
use Rattle.addr2line_ranges.specs.declared.last_list.ListKey.{ListKey}
use Rattle.addr2line_ranges.specs.declared.last_list.ReadList.{ReadList}
use Rattle.addr2line_ranges.specs.declared.last_list.LastList.{LastList}
use Rattle.addr2line_ranges.specs.RangeListReading.{ranges_or_refusal}

-- what the list at an offset depends on, of what a unit's attributes do
abbrev pub key_of : Bases → ℕ → ListKey
key_of b offset = record {
  offset = offset;
  address_size = b.encoding.address_size;
  format = b.encoding.format;
  version = b.encoding.version;
  low_pc = b.low_pc;
  address_base = b.addr_base;
}

-- such a unit's; no list depends on the bases that are 0 here
abbrev pub bases_of : ListKey → Bases
bases_of key = record {
  encoding = record {
    address_size = key.address_size;
    format = key.format;
    version = key.version;
  };
  low_pc = key.low_pc;
  str_offsets_base = 0;
  addr_base = key.address_base;
  loclists_base = 0;
  rnglists_base = 0;
}

-- the ranges of the list
abbrev pub listed_by : DwarfFile → ListKey → Result (List Range) Error
listed_by file key = and_then (ranges_of_list file (bases_of key) key.offset) ranges_or_refusal

-- a list that was read has its ranges
abbrev pub IsListOf : DwarfFile → ReadList → Type 0
IsListOf file l = listed_by file l.key ≡ Ok l.ranges.value.items

abbrev pub IsLastOf : DwarfFile → LastList → Type 0
IsLastOf file last = IfSome last.list (IsListOf file)

-- these are the ranges of the last list, which depends on this
abbrev pub IsReadBy : Option ReadList → ListKey → List Range → Type 0
IsReadBy None key ranges = ⊥
IsReadBy (Some l) key ranges = (l.key ≡ key) × (l.ranges.value.items ≡ ranges)
