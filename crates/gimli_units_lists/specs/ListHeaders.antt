-- The header of a table of lists that has none.
use Rattle.gimli_core_readers.specs.Format.TheVariants.{Dwarf32}
use Rattle.gimli_units_lists.specs.declared.header.ListsHeader.{ListsHeader}

-- a 32-bit table of version 5 without offsets
abbrev pub default_lists_header : ListsHeader
default_lists_header = record {
  encoding = record { address_size = 0; format = Dwarf32; version = 5 };
  offset_entry_count = 0;
}
