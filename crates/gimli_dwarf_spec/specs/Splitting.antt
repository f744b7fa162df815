-- What a split file and its units take from the file that names them (DWARF 5, 7.3.2 and 7.3.5).
use Rattle.std.specs.Prelude.{nat_lt, if◌then◌else◌}
use Rattle.gimli_units_entries.specs.DwarfFileType.TheVariants.{Dwo}
use Rattle.gimli_dwarf_spec.specs.DwarfFiles.{DwarfFile}
use Rattle.gimli_dwarf_spec.specs.UnitFacts.{UnitFacts}

-- a split file: addresses and range lists of old versions, which linkers write, are in the main
-- file alone, as is the supplement
abbrev pub split_from : DwarfFile → DwarfFile → DwarfFile
split_from parent file = record {
  offset_limit = file.offset_limit;
  sections = record file.sections {
    debug_addr = parent.sections.debug_addr;
    ranges =
        record {
          debug_ranges = parent.sections.ranges.debug_ranges;
          debug_rnglists = file.sections.ranges.debug_rnglists;
        };
    file_type = Dwo;
  };
  supplements = parent.supplements;
}

-- a split unit, with what only the main file's unit names: where it begins, its addresses, and
-- below version 5 its range lists
abbrev pub relocated_from : UnitFacts → UnitFacts → UnitFacts
relocated_from other u = record u {
  bases = record u.bases {
    low_pc = other.bases.low_pc;
    addr_base = other.bases.addr_base;
    rnglists_base =
        (if nat_lt u.header.encoding.version 5 then other.bases.rnglists_base
        else u.bases.rnglists_base);
  };
}
