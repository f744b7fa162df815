-- Units that were emitted say what the table's units say.
use Rattle.std.proofs.Common.{◌≡◌, ℕ, ◌+◌, ◌≤◌, ◌^◌, Bool, List, [], ◌∷◌, ◌++◌, All, length, map, sym, ap, subst, ◌∙◌, append_assoc}
use Rattle.std.proofs.lemmas.List.Elements.{All-head, All-nil}
use Rattle.linemap_emit_units.specs.Encoding.{Encoding}
use Rattle.linemap_emit_units.specs.StringSections.{IsText as HasNoZero, with_text}
use Rattle.linemap_emit_units.specs.DwarfFiles.{DwarfFile}
use Rattle.linemap_emit_units.specs.TableParts.{UnitPart}
use Rattle.linemap_emit_units.specs.Entry.{Entry}
use Rattle.linemap_emit_units.specs.Entry.TheVariants.{CompileUnit}
use Rattle.linemap_emit_units.specs.EmittedEntries.{AllFit, attributes_of}
use Rattle.linemap_emit_units.specs.EmittedUnits.{IsWritten, AllSmall}
use Rattle.linemap_emit_units.specs.EmittedRanges.{lists_start, spelled_ranges}
use Rattle.linemap_emit_units.proofs.EmittedRowsShown.{sequences_shown}
use Rattle.linemap_emit_units.specs.EmittedRows.{emitted_rules}
use Rattle.linemap_emit_units.specs.EmittedFiles.{unit_files, unit_file_ids, place_in}
use Rattle.linemap_emit_units.proofs.EmittedFileTexts.{unit_texts}
use Rattle.linemap_emit_units.proofs.UnitProgramsRead.{program_rows, lines_are, numbered_are}
use Rattle.linemap_emit_units.specs.UnitEmission.{EmittedUnit, text_offset, with_name, with_unit_entry}
use Rattle.linemap_emit_calls_laws.specs.RecordedFunctions.{HasTextAt}
use Rattle.linemap_emit_laws.proofs.EmittedFunctionUnits.{unit_entries, other_entries, functions_are_recorded}
use Rattle.linemap_emit_laws.specs.RecordedTables.{RecordsUnit, RecordsUnits, RecordsTable}
use Rattle.linemap_emit_units.specs.EmittedSections.{HoldTable}
use Rattle.linemap_emit_units.specs.TableEmission.{EmittedTable, no_units, number_of, before_entries, after_entries, with_emitted_unit, with_emitted_units, emitted_table}
use Rattle.linemap_emit_units.specs.FittingUnits.{UnitFits, AllUnitsFit, IsInUtf8, AllInUtf8}
use Rattle.linemap_emit_laws.proofs.EmissionGrowth.{TextsStay, texts_stay_on, Grows, root_grows, Extends, extends_by_nothing, extends_on, all_extend, entries_of_all, units_are}
use Rattle.linemap_emit_laws.proofs.EmittedStringLemmas.{text_stays, all_hold, text_is}
use Rattle.linemap_emit_laws.proofs.EmittedListLemmas.{list_is}
use Rattle.linemap_emit_laws.proofs.EmittedProgramLemmas.{length_fits, below_limit, buildable, program_read, program_is, texts_held}
use Rattle.linemap_emit_units.specs.BytesAt.{bytes_at}
use Rattle.linemap_emit_units.specs.LookupAgreement.{lookup_range}

-- what fits below 2^31 fits below a limit that isn't less
root_fits : (limit : ℕ) (e : Encoding) (name directory line_program range_list : ℕ) → 2 ^ 31 ≤ limit
    → AllFit (2 ^ 31) e (attributes_of (CompileUnit name directory line_program range_list))
    → AllFit limit e (attributes_of (CompileUnit name directory line_program range_list))
root_fits limit e name directory line_program range_list wide fit = (
  (fit.0.0, below_limit limit name wide fit.0.1),
  (
    (fit.1.0.0, below_limit limit directory wide fit.1.0.1),
    (
      (fit.1.1.0.0, below_limit limit line_program wide fit.1.1.0.1, fit.1.1.0.2),
      (fit.1.1.1.0, ((fit.1.1.1.1.0.0, below_limit limit range_list wide fit.1.1.1.1.0.1, fit.1.1.1.1.0.2), tt)),
    ),
  ),
)

-- a unit, where what was emitted after it comes after
unit_recorded : (e : Encoding) (is_big : Bool) (u : UnitPart) (st final : EmittedTable) (s : DwarfFile)
    → IsWritten e → 2 ^ 31 ≤ s.offset_limit → IsInUtf8 u → UnitFits e is_big u st → HoldTable e is_big final s
    → All HasNoZero final.texts → Extends (with_emitted_unit e is_big u st) final
    → RecordsUnit e s u (after_entries e is_big u st).entries
unit_recorded e is_big u st final s served wide utf8 fit hold no_zeros extends = record {
  name = name;
  directory = directory;
  line_program = length st.lines;
  range_list = lists_start e + length st.ranges;
  others = other_entries e is_big u st;
  entries_are = unit_entries e is_big u st;
  fit = root_fits s.offset_limit e name directory (length st.lines) (lists_start e + length st.ranges) wide
      (All-head (λ x. AllFit (2 ^ 31) e (attributes_of x)) x (other_entries e is_big u st)
      (subst (All (λ x. AllFit (2 ^ 31) e (attributes_of x))) (unit_entries e is_big u st) fit.entries_fit));
  is_name = name_there;
  is_directory = directory_there;
  ranges_are =
      λ b encoding low. list_is e is_big hold.ranges_first hold.rnglists_first s b st.ranges
      (grows.more_ranges ++ extends.more_ranges) final.ranges u.ranges served.has_address_size fit.can_emit.1.1
      hold.ranges_is hold.rnglists_is ranges_final encoding low;
  header =
      program_read e is_big u st served fit (length st.lines) hold.line_first directory_there.found name_there.found;
  header_is =
      program_is e is_big hold.line_first u st s st.lines extends.more_lines directory_there.found
      name_there.found served wide fit (hold.line_is ∙ ap (bytes_at is_big hold.line_first) extends.lines);
  number = number_of e u st;
  rows =
      program_rows e is_big u st.line_texts fit.program (buildable e served) fit.table_texts fit.no_zeros fit.few_files
      fit.can_emit_sequences fit.program_is;
  files = unit_texts u (unit_files e u st.line_texts);
  lines_are =
      λ facts within. lines_are e is_big u st.line_texts fit.program (buildable e served) fit.table_texts fit.no_zeros
      fit.few_files fit.can_emit_sequences fit.program_is s facts (length st.lines) (hold.line_first + length st.lines)
      directory_there.found name_there.found wide
      (texts_held is_big hold.line_str_first (unit_files e u st.line_texts).line_texts extends.more_line_texts
      final.line_texts s.sections.debug_line_str hold.line_str_is extends.line_texts) directory_there.bytes
      name_there.bytes within;
  rows_agree =
      sequences_shown (emitted_rules e) (place_in (unit_file_ids e u st.line_texts)) (length u.files) u.sequences
      fit.can_emit_sequences.can_show;
  files_numbered =
      numbered_are e is_big u st.line_texts fit.program (buildable e served) fit.table_texts fit.no_zeros fit.few_files
      fit.can_emit_sequences fit.program_is fit.rooted utf8.0 utf8.1;
  functions_are = functions_are_recorded e is_big u st final s served wide fit hold no_zeros extends;
}
  where
    before : EmittedUnit
    before = before_entries e is_big st

    root : EmittedUnit
    root = with_unit_entry (length st.lines) u before

    grows : Grows root (after_entries e is_big u st)
    grows = root_grows (number_of e u st) (length st.lines) u before

    name : ℕ
    name = text_offset u.name before

    directory : ℕ
    directory = text_offset u.directory (with_name u.name before)

    x : Entry
    x = CompileUnit name directory (length st.lines) (lists_start e + length st.ranges)

    root_stays : TextsStay root.texts final.texts
    root_stays = texts_stay_on root.texts (after_entries e is_big u st).texts final.texts grows.texts extends.texts

    name_stays : TextsStay (with_text st.texts u.name) final.texts
    name_stays = texts_stay_on (with_text st.texts u.name) root.texts final.texts
        (text_stays (with_text st.texts u.name) u.directory) root_stays

    name_there : HasTextAt s name u.name
    name_there = text_is s is_big hold.str_first final.texts st.texts u.name hold.str_is no_zeros name_stays

    directory_there : HasTextAt s directory u.directory
    directory_there = text_is s is_big hold.str_first final.texts (with_text st.texts u.name) u.directory hold.str_is
        no_zeros root_stays

    ranges_final : final.ranges
        ≡ (st.ranges ++ spelled_ranges e is_big (map lookup_range u.ranges))
        ++ (grows.more_ranges ++ extends.more_ranges)
    ranges_final = extends.ranges ∙ ap (λ (l : List ℕ). l ++ extends.more_ranges) grows.ranges
        ∙ append_assoc root.ranges.bytes grows.more_ranges extends.more_ranges

-- units one after the other
units_recorded : (e : Encoding) (is_big : Bool) (us : List UnitPart) (st final : EmittedTable)
    (s : DwarfFile) → IsWritten e → 2 ^ 31 ≤ s.offset_limit → AllInUtf8 us → AllUnitsFit e is_big us st
    → HoldTable e is_big final s → All HasNoZero final.texts → Extends (with_emitted_units e is_big us st) final
    → RecordsUnits e s us (entries_of_all e is_big us st)
unfolding with_emitted_units entries_of_all AllUnitsFit AllInUtf8
units_recorded e is_big [] st final s served wide utf8 fit hold no_zeros extends = tt
units_recorded e is_big (u ∷ us) st final s served wide utf8 fit hold no_zeros extends =
    let next = with_emitted_unit e is_big u st in (
      unit_recorded e is_big u st final s served wide utf8.0 fit.0 hold no_zeros
          (extends_on next (with_emitted_units e is_big us next) final (all_extend e is_big us next) extends),
      units_recorded e is_big us next final s served wide utf8.1 fit.1 hold no_zeros extends,
    )

-- their lengths can be written
all_small : (limit : ℕ) (e : Encoding) (is_big : Bool) (us : List UnitPart) (st : EmittedTable) → 2 ^ 31 ≤ limit
    → AllUnitsFit e is_big us st → AllSmall limit e is_big (entries_of_all e is_big us st)
unfolding entries_of_all AllUnitsFit
all_small limit e is_big [] st wide fit = tt
all_small limit e is_big (u ∷ us) st wide fit = (
  (length_fits e.format _ fit.0.entries_small, below_limit limit _ wide fit.0.entries_small),
  all_small limit e is_big us (with_emitted_unit e is_big u st) wide fit.1,
)

-- what was emitted of a table
pub emission_recorded : (e : Encoding) (is_big : Bool) (us : List UnitPart) (s : DwarfFile) → IsWritten e
    → 2 ^ 31 ≤ s.offset_limit → AllInUtf8 us → AllUnitsFit e is_big us no_units
    → HoldTable e is_big (emitted_table e is_big us) s
    → RecordsTable e is_big s us (emitted_table e is_big us).units
emission_recorded e is_big us s served wide utf8 fit hold =
    let final = emitted_table e is_big us in
    let whole = units_are e is_big us no_units in
    let no_zeros = all_hold e is_big us no_units fit (All-nil HasNoZero) in
    record {
      encoding_is_written = served;
      units_are_small =
          subst (AllSmall s.offset_limit e is_big) (sym whole)
          (all_small s.offset_limit e is_big us no_units wide fit);
      abbrev_first = hold.abbrev_first;
      declarations_are = hold.abbrev_is;
      info_first = hold.info_first;
      units_are = hold.info_is;
      no_aranges = hold.no_aranges;
      is_main = hold.is_main;
      is_alone = hold.is_alone;
      units_are_recorded = subst (RecordsUnits e s us) (sym whole)
          (units_recorded e is_big us no_units final s served wide utf8 fit hold no_zeros
          (extends_by_nothing final));
    }
