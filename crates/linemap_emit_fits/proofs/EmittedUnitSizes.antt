-- What is emitted of a sound table fits, unit by unit.
use Rattle.std.proofs.Common.{◌≡◌, ℕ, ◌+◌, ◌*◌, ◌<◌, ◌≤◌, ◌^◌, Bool, true, List, [], ◌∷◌, length, sum_by, ap, arith}
use Rattle.std.proofs.lemmas.List.{length-append}
use Rattle.std.proofs.lemmas.List.Elements.{All-nil}
use Rattle.std.proofs.lemmas.List.Sums.{sum_by-cons}
use Rattle.linemap_emit_units.specs.Encoding.{Encoding}
use Rattle.linemap_emit_units.specs.StringSections.{IsText, section_of}
use Rattle.linemap_emit_units.specs.Conditions.{IsSound}
use Rattle.linemap_emit_units.specs.EncodingFits.{fits}
use Rattle.linemap_emit_units.specs.TableParts.{FilePart, UnitPart}
use Rattle.linemap_emit_units.specs.TableWeight.{file_weight, sequence_weight, unit_weight, table_weight}
use Rattle.linemap_emit_units.specs.EmittedEntryRows.{spelled_entries}
use Rattle.linemap_emit_units.specs.EmittedUnits.{IsWritten, spelled_fields}
use Rattle.linemap_emit_units.specs.SoundSequences.{CanEmitSequences, AllCanEmitSequences}
use Rattle.linemap_emit_units.proofs.SoundSequenceLemmas.{sound_can_emit}
use Rattle.linemap_emit_units.proofs.Wrapping.{at_most_eight}
use Rattle.linemap_emit_units.specs.TableEmission.{EmittedTable, no_units, number_of, before_entries, after_entries, with_emitted_unit}
use Rattle.linemap_emit_units.specs.EmittedFiles.{unit_files}
use Rattle.linemap_emit_units.specs.EmittedPrograms.{line_program_bytes, bytes_if_any}
use Rattle.linemap_emit_units.proofs.SoundFiles.{unit_sound}
use Rattle.linemap_emit_units.proofs.PlacedFiles.{numbers_low}
use Rattle.linemap_emit_units.specs.FittingUnits.{UnitFits, AllUnitsFit}
use Rattle.linemap_emit_fits.specs.EmissionBounds.{IsUnitBounded, IsTableBounded}
use Rattle.linemap_emit_fits.proofs.InstructionSizes.{IsWithin}
use Rattle.linemap_emit_fits.proofs.EntryListSizes.{fields_few}
use Rattle.linemap_emit_units.specs.InlinedNames.{inlined_names}
use Rattle.linemap_emit_fits.proofs.InlinedNameSizes.{names_few, unit_split}
use Rattle.linemap_emit_fits.proofs.FileTableSizes.{tables_size, unit_size, unit_texts_grow}
use Rattle.linemap_emit_fits.proofs.LineProgramSizes.{program_within}
use Rattle.linemap_emit_fits.proofs.EntrySizes.{unit_most, unit_is_bounded}
use Rattle.linemap_emit_fits.proofs.SoundUnitFits.{CanEmitUnitSequences, plain_can_emit, AllPlain, sound_is_plain}

module _ (e : Encoding) (is_big : Bool) (served : IsWritten e) where
  -- the entries of a unit after others
  entries_bounded : (m : ℕ) (u : UnitPart) (st : EmittedTable) → length u.files < 2 ^ 31
      → CanEmitUnitSequences e.address_size u → IsTableBounded m st → m + unit_weight u < 2 ^ 31
      → IsUnitBounded e is_big (m + unit_most u) (after_entries e is_big u st)
  entries_bounded m u st few_files can bounded fits =
      let few = bounded.lines_few in
      let start : IsUnitBounded e is_big m (before_entries e is_big st) = record {
        size_few = at_most_eight e.address_size served.has_address_size;
        texts_few = bounded.texts_few;
        ranges_few = bounded.ranges_few;
        entries_few = omega arith;
        fit = λ i d h. absurd (omega arith);
      } in
      unit_is_bounded e is_big (at_most_eight e.address_size served.has_address_size) (number_of e u st)
      (length st.lines) u (numbers_low e u st.line_texts few_files) can.numbers_fit (omega arith) (omega arith) start

  -- ---- a unit

  -- fewer files than the weight counts
  pub files_few : (fs : List FilePart) → 256 * length fs ≤ sum_by file_weight fs
  files_few [] = omega arith
  files_few (f ∷ fs) =
      let rest = files_few fs in let whole = sum_by-cons file_weight f fs in omega arith

  -- its line number program
  pub program_bounded : (m : ℕ) (u : UnitPart) (st : EmittedTable)
      → CanEmitSequences e.address_size (length u.files) u.sequences → CanEmitUnitSequences e.address_size u
      → IsTableBounded m st → m + unit_weight u < 2 ^ 31
      → IsWithin (124 + tables_size (unit_files e u st.line_texts) + sum_by sequence_weight u.sequences)
      (line_program_bytes e is_big u st.line_texts)
  program_bounded m u st rows can bounded fits =
      let size = unit_size e u st.line_texts in
      let grown = unit_texts_grow e u st.line_texts in
      let texts = bounded.line_texts_few in
      program_within e is_big u st.line_texts served can.table_texts bounded.no_zeros rows (omega arith) (omega arith)

  unit_fits : (m : ℕ) (u : UnitPart) (st : EmittedTable)
      → CanEmitSequences e.address_size (length u.files) u.sequences → CanEmitUnitSequences e.address_size u
      → IsTableBounded m st → m + unit_weight u < 2 ^ 31 → UnitFits e is_big u st
  unit_fits m u st rows can bounded fits =
      let count = files_few u.files in
      let few_files : length u.files < 2 ^ 31 = omega arith in
      let program = program_bounded m u st rows can bounded fits in
      let program_few = program.few in
      let size = unit_size e u st.line_texts in
      let grown = unit_texts_grow e u st.line_texts in
      let texts = bounded.line_texts_few in
      let bounds = entries_bounded m u st few_files can bounded fits in
      let entries = after_entries e is_big u st in
      let entries_few = bounds.entries_few in
      let lists_few = bounds.ranges_few in
      let fields = fields_few e is_big in
      let whole = length-append (spelled_fields e is_big) (spelled_entries e is_big entries.entries) in
      record {
        can_emit = can.can_emit;
        can_emit_sequences = rows;
        table_texts = can.table_texts;
        rooted = can.rooted;
        few_files = few_files;
        no_zeros = bounded.no_zeros;
        program = program.bytes;
        program_is = program.are;
        program_small = omega arith;
        line_texts_small = omega arith;
        entries_fit = bounds.fit;
        lists_small = omega arith;
        entries_small = omega arith;
      }

  pub unit_bounded : (m : ℕ) (u : UnitPart) (st : EmittedTable)
      → CanEmitSequences e.address_size (length u.files) u.sequences → CanEmitUnitSequences e.address_size u
      → IsTableBounded m st → m + unit_weight u < 2 ^ 31
      → IsTableBounded (m + unit_weight u) (with_emitted_unit e is_big u st)
  unit_bounded m u st rows can bounded fits =
      let count = files_few u.files in
      let few_files : length u.files < 2 ^ 31 = omega arith in
      let program = program_bounded m u st rows can bounded fits in
      let program_few = program.few in
      let size = unit_size e u st.line_texts in
      let grown = unit_texts_grow e u st.line_texts in
      let line_texts = bounded.line_texts_few in
      let before = bounded.lines_few in
      let bounds = entries_bounded m u st few_files can bounded fits in
      let written = line_program_bytes e is_big u st.line_texts in
      let same : length (bytes_if_any written) ≡ length program.bytes = ap (λ r. length (bytes_if_any r)) program.are in
      let whole = length-append st.lines (bytes_if_any written) in
      let texts = bounds.texts_few in
      let ranges = bounds.ranges_few in
      record {
        lines_few = omega arith;
        line_texts_few = omega arith;
        texts_few = omega arith;
        ranges_few = omega arith;
        no_zeros = (unit_sound e u st.line_texts can.table_texts bounded.no_zeros).no_zeros;
      }

  -- ---- all units

  all_fit : (us : List UnitPart) (m : ℕ) (st : EmittedTable) → AllCanEmitSequences e.address_size us
      → AllPlain e.address_size us → IsTableBounded m st → m + sum_by unit_weight us < 2 ^ 31
      → AllUnitsFit e is_big us st
  unfolding AllUnitsFit AllCanEmitSequences AllPlain
  all_fit [] m st rows plain bounded fits = tt
  all_fit (u ∷ us) m st rows plain bounded fits =
      let whole = sum_by-cons unit_weight u us in
      let here : m + unit_weight u < 2 ^ 31 = omega arith in
      let split = unit_split u in
      let count = names_few (inlined_names u) in
      let can = plain_can_emit e.address_size u (omega arith) plain.0 in (
        unit_fits m u st rows.0 can bounded here,
        all_fit us (m + unit_weight u) (with_emitted_unit e is_big u st) rows.1 plain.1
            (unit_bounded m u st rows.0 can bounded here) (omega arith),
      )

pub tables_fit : (e : Encoding) (is_big : Bool) (us : List UnitPart) → IsWritten e → IsSound us
    → fits e.address_size us ≡ true → table_weight us < 2 ^ 31 → AllUnitsFit e is_big us no_units
unfolding section_of
tables_fit e is_big us served sound fitting light =
    all_fit e is_big served us 0 no_units (sound_can_emit e.address_size us sound fitting)
    (sound_is_plain e.address_size us sound fitting)
    (record {
      lines_few = omega arith;
      line_texts_few = omega arith;
      texts_few = omega arith;
      ranges_few = omega arith;
      no_zeros = All-nil IsText;
    }) (omega arith)
