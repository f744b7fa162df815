-- Worked values: what the definitions say of two units by hand over one address, whose functions may be in split files,
-- by computation.
use Rattle.std.proofs.Common.{◌≡◌, ℕ, false, List, [], ◌∷◌, Option, Some, None, Ok, Err, refl, codes, true}
use Rattle.gimli_lines_machine.specs.Error.TheVariants.{InvalidAbbreviationCode, ExpectedStringAttributeValue, NoSuchUnit}
use Rattle.gimli_lines_machine.specs.NumberParsers.{unsigned, unsigned_16, signed, fixed, initial_length, sized_offset, word, address_size}
use Rattle.gimli_lines_machine.specs.Repetition.{items_within, listing_in}
use Rattle.gimli_lines_machine.specs.TheConstants.{DW_TAG_compile_unit, DW_AT_GNU_dwo_name, DW_FORM_string, DW_FORM_sdata}
use Rattle.gimli_lines_machine.specs.View.{View}
use Rattle.gimli_dwarf_spec.specs.Attributes.{Bases}
use Rattle.gimli_dwarf_spec.specs.AttributeReading as reading
use Rattle.gimli_dwarf_spec.specs.AttributeSkipping as skipping
use Rattle.gimli_dwarf_spec.specs.Declarations.{Attribute}
use Rattle.gimli_dwarf_spec.specs.TableParsing.{attribute, attributes, children, declaration_of, coded_declaration, declaration, table}
use Rattle.gimli_dwarf_spec.specs.FormSpellings.{spelling}
use Rattle.gimli_dwarf_spec.specs.EntryRows.{row, rows, row_or_end, row_choosing}
use Rattle.gimli_dwarf_spec.specs.EntryWalks.{entry_head, values, skip_values}
use Rattle.gimli_dwarf_spec.specs.SectionParts.{counted_part}
use Rattle.gimli_dwarf_spec.specs.UnitHeaders.{compilation, fields_to_4, unit_fields, unit_in}
use Rattle.gimli_dwarf_spec.specs.DwarfFiles.{DwarfFile}
use Rattle.gimli_dwarf_spec.specs.UnitFacts.{UnitFacts, in_file}
use Rattle.addr2line_spec.specs.Frames.{Frame}
use Rattle.addr2line_spec.specs.FirstAnswers.{SplitLoad, output, pending, no_answers}
use Rattle.addr2line_spec.specs.Contexts.{ContextUnit, FileContext}
use Rattle.addr2line_spec.specs.Lookups as lookups
use Rattle.addr2line_spec.specs.Lookups.{Namings, frames, loads, answer_load}
use Rattle.addr2line_spec.specs.Histories.{find_frames, answer_token, preload_units, parse_functions, frames_answer, loads_answer, completion, suspension, no_token, history}
use Rattle.addr2line_spec.proofs.ContextExamples.{view, no_sections}

-- ---- units

-- a row from the begin of a range to its end, at the line of that end
abbrev unit_over : ℕ → ℕ → UnitFacts → ContextUnit
unit_over begin end facts =
    record {
      facts = facts;
      ranges = record { begin = begin; end = end } ∷ [];
      language = None;
      lines = Ok (record {
        sequences = record {
          start = begin;
          end = end;
          rows = record {
            address = begin;
            file = 1;
            line = end;
            column = 1;
            statement = true;
            discriminator = 0;
          } ∷ [];
        } ∷ [];
        files = [] ∷ codes "/w/a.c" ∷ [];
      });
    }

-- the frame of that row
abbrev at_line : ℕ → List Frame
at_line line =
    record {
      offset = None;
      function = None;
      location = Some (record {
        file = Some (codes "/w/a.c");
        line = Some line;
        column = Some 1;
        statement = Some true;
        discriminator = Some 0;
      });
    } ∷ []

abbrev nameless : Namings
nameless f name attribute = Ok name

-- ---- files that answer loads

-- one unit, whose root has a code that is declared as that of a unit
abbrev file_of_code : ℕ → DwarfFile
file_of_code code =
    record no_sections {
      sections = record no_sections.sections {
        debug_abbrev = view (1 ∷ 0x11 ∷ 0 ∷ 0 ∷ 0 ∷ 0 ∷ []);
        debug_info = view (8 ∷ 0 ∷ 0 ∷ 0 ∷ 4 ∷ 0 ∷ 0 ∷ 0 ∷ 0 ∷ 0 ∷ 8 ∷ code ∷ []);
      };
    }

module _ (b : Bases) where
  -- a unit of one entry, whose attributes and bytes these are
  abbrev facts : Option ℕ → List Attribute → List ℕ → UnitFacts
  facts dwo_id attributes bytes =
      record {
        header = record {
          offset = 0;
          unit_length = 0;
          encoding = record b.encoding { address_size = 8; version = 4 };
          kind = compilation;
          abbrev_offset = 0;
          entries = view bytes;
        };
        table = record {
          code = 1;
          tag = DW_TAG_compile_unit.0;
          has_children = false;
          attributes = attributes;
        } ∷ [];
        name = None;
        comp_dir = None;
        bases = b;
        line_header = None;
        dwo_id = dwo_id;
      }

  -- the first is in a split file if it has an identifier; the second isn't
  abbrev context_of : UnitFacts → FileContext
  context_of first =
      record {
        file = no_sections;
        context = record {
          units = unit_over 0x10 0x20 first ∷ unit_over 0 0x40 (facts None [] (1 ∷ [])) ∷ [];
          supplement_units = [];
        };
      }

  -- a file that isn't named, one that is, and one whose name isn't a text
  abbrev split_context : FileContext
  split_context = context_of (facts (Some 7) [] (1 ∷ []))

  abbrev named_split : FileContext
  named_split =
      context_of (facts (Some 7)
      (record { name = DW_AT_GNU_dwo_name.0; form = DW_FORM_string.0; implicit_const = None } ∷ [])
      (1 ∷ 0x61 ∷ 0 ∷ []))

  abbrev misnamed_split : FileContext
  misnamed_split =
      context_of (facts (Some 7)
      (record { name = DW_AT_GNU_dwo_name.0; form = DW_FORM_sdata.0; implicit_const = None } ∷ [])
      (1 ∷ 7 ∷ []))

  abbrev load : Option View → SplitLoad
  load path = record { dwo_id = 7; comp_dir = None; path = path; parent = no_sections }

  -- ---- before any answer

  the_first_unit_is_pending : frames split_context nameless (no_answers 2) 0x14
      ≡ pending (record { number = 0; load = load None })
  unfolding row entry_head values unsigned reading.attributes
  the_first_unit_is_pending = refl

  its_file_is_named : frames named_split nameless (no_answers 2) 0x14
      ≡ pending (record { number = 0; load = load (Some (record { bytes = 0x61 ∷ []; is_big = false; first = 1 })) })
  unfolding row entry_head values unsigned reading.attributes reading.attribute reading.value reading.final_form
      reading.form_within spelling
  its_file_is_named = refl

  one_load : loads split_context (no_answers 2) 0x14 ≡ record { number = 0; load = load None } ∷ []
  unfolding row entry_head values unsigned reading.attributes
  one_load = refl

  only_the_second_covers_it : frames split_context nameless (no_answers 2) 0x24 ≡ output (Ok (at_line 0x40))
  unfolding row entry_head values unsigned reading.attributes listing_in items_within rows row_or_end row_choosing
      skip_values skipping.skip_values skipping.skip_ways skipping.run
  only_the_second_covers_it = refl

  a_name_that_is_no_text_is_a_refusal : frames misnamed_split nameless (no_answers 2) 0x14
      ≡ output (Err ExpectedStringAttributeValue)
  unfolding row entry_head values unsigned reading.attributes reading.attribute reading.value reading.final_form
      reading.form_within spelling signed
  a_name_that_is_no_text_is_a_refusal = refl

  and_no_load : loads misnamed_split (no_answers 2) 0x14 ≡ []
  unfolding row entry_head values unsigned reading.attributes reading.attribute reading.value reading.final_form
      reading.form_within spelling signed
  and_no_load = refl

  -- ---- answers

  no_file_leaves_the_unit_itself : answer_load split_context (no_answers 2) 0 None ≡ (Ok tt, Some (Ok None) ∷ None ∷ [])
  unfolding row entry_head values unsigned reading.attributes
  no_file_leaves_the_unit_itself = refl

  its_own_row : frames split_context nameless (Some (Ok None) ∷ None ∷ []) 0x14 ≡ output (Ok (at_line 0x20))
  unfolding row entry_head values unsigned reading.attributes listing_in items_within rows row_or_end row_choosing
      skip_values skipping.skip_values skipping.skip_ways skipping.run
  its_own_row = refl

  no_load_is_left : loads split_context (Some (Ok None) ∷ None ∷ []) 0x14 ≡ []
  unfolding row entry_head values unsigned reading.attributes
  no_load_is_left = refl

  a_file_without_units : answer_load split_context (no_answers 2) 0 (Some no_sections)
      ≡ (Ok tt, Some (Ok None) ∷ None ∷ [])
  unfolding row entry_head values unsigned reading.attributes
  a_file_without_units = refl

  a_code_without_a_declaration : answer_load split_context (no_answers 2) 0 (Some (file_of_code 9))
      ≡ (Err (InvalidAbbreviationCode 9), Some (Err (InvalidAbbreviationCode 9)) ∷ None ∷ [])
  unfolding row entry_head values unsigned reading.attributes listing_in items_within rows row_or_end row_choosing
      skip_values skipping.skip_values skipping.skip_ways skipping.run counted_part unit_in unit_fields fields_to_4
      initial_length word sized_offset address_size fixed table declaration coded_declaration declaration_of children
      attributes attribute unsigned_16
  a_code_without_a_declaration = refl

  is_refused_from_then_on : frames split_context nameless (Some (Err (InvalidAbbreviationCode 9)) ∷ None ∷ []) 0x14
      ≡ output (Err (InvalidAbbreviationCode 9))
  unfolding row entry_head values unsigned reading.attributes
  is_refused_from_then_on = refl

  to_a_second_answer_too : answer_load split_context (Some (Err (InvalidAbbreviationCode 9)) ∷ None ∷ []) 0 None
      ≡ (Err (InvalidAbbreviationCode 9), Some (Err (InvalidAbbreviationCode 9)) ∷ None ∷ [])
  unfolding row entry_head values unsigned reading.attributes
  to_a_second_answer_too = refl

  while_a_unit_is_found_after_it :
      lookups.unit split_context nameless (Some (Err (InvalidAbbreviationCode 9)) ∷ None ∷ []) 0x14
      ≡ output (Some (in_file no_sections (facts None [] (1 ∷ []))))
  unfolding row entry_head values unsigned reading.attributes listing_in items_within rows row_or_end row_choosing
      skip_values skipping.skip_values skipping.skip_ways skipping.run
  while_a_unit_is_found_after_it = refl

  no_such_unit : answer_load split_context (no_answers 2) 2 None ≡ (Err NoSuchUnit, no_answers 2)
  no_such_unit = refl

  -- ---- histories

  suspended_and_resumed :
      history split_context nameless (find_frames 0x14 [] ∷ find_frames 0x14 (None ∷ []) ∷ find_frames 0x14 [] ∷ [])
      ≡ suspension ∷ frames_answer (Ok (at_line 0x20)) ∷ frames_answer (Ok (at_line 0x20)) ∷ []
  unfolding row entry_head values unsigned reading.attributes listing_in items_within rows row_or_end row_choosing
      skip_values skipping.skip_values skipping.skip_ways skipping.run
  suspended_and_resumed = refl

  the_first_answer_stays : history split_context nameless
      (preload_units 0x14 ∷ answer_token 0 None ∷ answer_token 0 (Some (file_of_code 9)) ∷ answer_token 1 None
      ∷ find_frames 0x14 [] ∷ [])
      ≡ loads_answer (load None ∷ []) ∷ completion (Ok tt) ∷ completion (Ok tt) ∷ no_token
      ∷ frames_answer (Ok (at_line 0x20)) ∷ []
  unfolding row entry_head values unsigned reading.attributes listing_in items_within rows row_or_end row_choosing
      skip_values skipping.skip_values skipping.skip_ways skipping.run counted_part unit_in unit_fields fields_to_4
      initial_length word sized_offset address_size fixed table declaration coded_declaration declaration_of children
      attributes attribute unsigned_16
  the_first_answer_stays = refl

  every_unit_is_answered_by_no_file : history split_context nameless (parse_functions ∷ find_frames 0x14 [] ∷ [])
      ≡ completion (Ok tt) ∷ frames_answer (Ok (at_line 0x20)) ∷ []
  unfolding row entry_head values unsigned reading.attributes listing_in items_within rows row_or_end row_choosing
      skip_values skipping.skip_values skipping.skip_ways skipping.run
  every_unit_is_answered_by_no_file = refl
