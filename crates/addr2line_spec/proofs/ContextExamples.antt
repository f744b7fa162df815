-- Worked values: what the definitions say of sections by hand, by computation.
use Rattle.std.proofs.Common.{◌≡◌, ℕ, ◌^◌, ◌-◌, false, List, [], ◌∷◌, Ok, refl}
use Rattle.gimli_lines_machine.specs.View.{View}
use Rattle.gimli_lines_machine.specs.Repetition.{items_within, listing_in}
use Rattle.gimli_lines_machine.specs.DwarfFileType.TheVariants.{Main}
use Rattle.gimli_lines_machine.specs.Range.{Range}
use Rattle.gimli_dwarf_spec.specs.DwarfFiles.{DwarfFile}
use Rattle.addr2line_spec.specs.Contexts.{context}
use Rattle.addr2line_spec.specs.UnitRanges.{begins_at, ends_at, has_size, no_fact, range_of_root}

abbrev pub view : List ℕ → View
view bytes = record { bytes = bytes; is_big = false; first = 0 }

-- a file all of whose sections are empty
abbrev pub no_sections : DwarfFile
no_sections = record {
  offset_limit = 2 ^ 64;
  sections = record {
    debug_abbrev = view [];
    debug_addr = view [];
    debug_aranges = view [];
    debug_info = view [];
    debug_line = view [];
    debug_line_str = view [];
    debug_macinfo = view [];
    debug_macro = view [];
    debug_names = view [];
    debug_str = view [];
    debug_str_offsets = view [];
    debug_types = view [];
    locations = record { debug_loc = view []; debug_loclists = view [] };
    ranges = record { debug_ranges = view []; debug_rnglists = view [] };
    file_type = Main;
  };
  supplements = [];
}

-- ---- no sections

nothing_to_look_up : context no_sections ≡ Ok (record { units = []; supplement_units = [] })
unfolding items_within listing_in
nothing_to_look_up = refl

-- ---- what a root says of ranges

abbrev range : ℕ → ℕ → List Range
range begin end = record { begin = begin; end = end } ∷ []

a_size_after_low_pc : range_of_root (begins_at 0x10 ∷ has_size 0x20 ∷ []) ≡ range 0x10 0x30
a_size_after_low_pc = refl

an_end_before_a_size : range_of_root (has_size 0x20 ∷ begins_at 0x10 ∷ ends_at 0x18 ∷ []) ≡ range 0x10 0x18
an_end_before_a_size = refl

the_last_counts : range_of_root (begins_at 0x10 ∷ ends_at 0x18 ∷ begins_at 0x14 ∷ no_fact ∷ []) ≡ range 0x14 0x18
the_last_counts = refl

nothing_where_it_ends_first : range_of_root (begins_at 0x10 ∷ ends_at 0x10 ∷ []) ≡ []
nothing_where_it_ends_first = refl

no_begin : range_of_root (ends_at 0x10 ∷ []) ≡ []
no_begin = refl

past_the_last_address : range_of_root (begins_at (2 ^ 64 - 1) ∷ has_size 2 ∷ []) ≡ []
past_the_last_address = refl
