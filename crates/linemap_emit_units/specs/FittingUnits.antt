-- Units that can be emitted: what is written of each fits.
use Rattle.std.specs.Prelude.{◌≡◌, ℕ, ◌+◌, ◌<◌, ◌^◌, Bool, true, List, [], ◌∷◌, All, length, Ok}
use Rattle.std.specs.Str.{IsUtf8}
use Rattle.gimli_lines_write_tables.specs.Encoding.{Encoding}
use Rattle.linemap_emit_programs.specs.Conditions.{IsSound}
use Rattle.linemap_emit_programs.specs.EncodingFits.{fits}
use Rattle.linemap_emit_programs.specs.TableParts.{UnitPart}
use Rattle.linemap_emit_programs.specs.TableWeight.{table_weight}
use Rattle.linemap_emit_programs.specs.EmittedEntries.{AllFit, attributes_of}
use Rattle.linemap_emit_programs.specs.EmittedUnits.{IsWritten, spelled_unit_body}
use Rattle.linemap_emit_units.specs.UnitEmission.{CanEmitUnit}
use Rattle.gimli_lines_write_tables.specs.StringSections.{IsText, section_of}
use Rattle.linemap_emit_programs.specs.FilePaths.{is_rooted}
use Rattle.linemap_emit_programs.specs.EmittedFiles.{HasTableTexts, unit_files}
use Rattle.linemap_emit_programs.specs.SoundSequences.{CanEmitSequences}
use Rattle.linemap_emit_programs.specs.EmittedPrograms.{FilesAreUtf8, line_program_bytes}
use Rattle.linemap_emit_units.specs.TableEmission.{EmittedTable, no_units, after_entries, with_emitted_unit}

-- A unit after others: its texts, ranges and rows can be written, its directory has a root, its
-- line number program isn't refused, its entries' offsets and the lengths of its headers and texts
-- are below 2^31, and so are the lists with a header.
pub record UnitFits (e : Encoding) (is_big : Bool) (u : UnitPart) (st : EmittedTable) : Type 0 where
  pub can_emit : CanEmitUnit e.address_size u
  pub can_emit_sequences : CanEmitSequences e.address_size (length u.files) u.sequences
  pub table_texts : HasTableTexts u
  pub rooted : is_rooted u.directory ≡ true
  pub few_files : length u.files < 2 ^ 31
  pub no_zeros : All IsText st.line_texts
  pub program : List ℕ
  pub program_is : line_program_bytes e is_big u st.line_texts ≡ Ok program
  pub program_small : length program < 2 ^ 31
  pub line_texts_small : length (section_of (unit_files e u st.line_texts).line_texts) < 2 ^ 31
  pub entries_fit : All (λ x. AllFit (2 ^ 31) e (attributes_of x))
      (after_entries e is_big u st).entries
  pub lists_small : 8 + length (after_entries e is_big u st).ranges.bytes < 2 ^ 31
  pub entries_small : length (spelled_unit_body e is_big (after_entries e is_big u st).entries)
      < 2 ^ 31

-- each unit after those before it
unfoldable pub AllUnitsFit : Encoding → Bool → List UnitPart → EmittedTable → Type 0
AllUnitsFit e is_big [] st = Unit {0}
AllUnitsFit e is_big (u ∷ us) st =
    UnitFits e is_big u st × AllUnitsFit e is_big us (with_emitted_unit e is_big u st)

-- A sound table that fits the encoding can be emitted where its weight is below 2^31.
abbrev pub SoundTablesFit : Type 0
SoundTablesFit =
    (e : Encoding) (is_big : Bool) (us : List UnitPart)
    → IsWritten e → IsSound us → fits e.address_size us ≡ true → table_weight us < 2 ^ 31
    → AllUnitsFit e is_big us no_units

-- the texts of a unit's directory and files are UTF-8
abbrev pub IsInUtf8 : UnitPart → Type 0
IsInUtf8 u = IsUtf8 u.directory × FilesAreUtf8 u.files

unfoldable pub AllInUtf8 : List UnitPart → Type 0
AllInUtf8 [] = Unit {0}
AllInUtf8 (u ∷ us) = IsInUtf8 u × AllInUtf8 us
