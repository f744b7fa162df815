-- A file of sections that are handed in one by one.
use Rattle.std.specs.Prelude.{ℕ, None}
use Rattle.addr2line_lookups.specs.View.{View}
use Rattle.addr2line_lookups.specs.DwarfFileType.TheVariants.{Main}
use Rattle.addr2line_lookups.specs.DwarfFiles.{DwarfFile, dwarf_file}

-- a main file without a supplement; its sections that aren't named here are the last
abbrev pub main_file : (limit : ℕ)
    (abbrevs addr aranges info line line_str ranges rnglists str str_offsets others : View)
    → DwarfFile
main_file limit abbrevs addr aranges info line line_str ranges rnglists str str_offsets others =
    dwarf_file limit (record {
      debug_abbrev = abbrevs;
      debug_addr = addr;
      debug_aranges = aranges;
      debug_info = info;
      debug_line = line;
      debug_line_str = line_str;
      debug_macinfo = others;
      debug_macro = others;
      debug_names = others;
      debug_str = str;
      debug_str_offsets = str_offsets;
      debug_types = others;
      locations = record { debug_loc = others; debug_loclists = others };
      ranges = record { debug_ranges = ranges; debug_rnglists = rnglists };
      file_type = Main;
    }) None
