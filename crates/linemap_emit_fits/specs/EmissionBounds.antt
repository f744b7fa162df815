-- Bounds of what is emitted.
use Rattle.std.specs.Prelude.{◌≡◌, ℕ, ◌+◌, ◌<◌, ◌≤◌, ◌^◌, Bool, true, List, All, length}
use Rattle.linemap_emit_units.specs.Encoding.{Encoding}
use Rattle.linemap_emit_units.specs.StringSections.{IsText, section_of}
use Rattle.linemap_emit_units.specs.Conditions.{IsSound}
use Rattle.linemap_emit_units.specs.EncodingFits.{fits}
use Rattle.linemap_emit_units.specs.TableParts.{UnitPart}
use Rattle.linemap_emit_units.specs.TableWeight.{table_weight}
use Rattle.linemap_emit_units.specs.EmittedSections.{SectionBytes, emitted_sections}
use Rattle.linemap_emit_units.specs.EmittedUnits.{IsWritten}
use Rattle.linemap_emit_units.specs.EmittedEntries.{AllFit, attributes_of}
use Rattle.linemap_emit_units.specs.EmittedEntryRows.{spelled_entries}
use Rattle.linemap_emit_units.specs.UnitEmission.{EmittedUnit}
use Rattle.linemap_emit_units.specs.TableEmission.{EmittedTable}

-- The string section, the range lists and the entries of the unit are no longer than a bound, and
-- the entries' offsets are below 2^31.
pub record IsUnitBounded (e : Encoding) (is_big : Bool) (most : ℕ)
    (st : EmittedUnit) : Type 0 where
  pub size_few : st.encoding.address_size ≤ 8
  pub texts_few : length (section_of st.texts) ≤ most
  pub ranges_few : length st.ranges.bytes ≤ most
  pub entries_few : length (spelled_entries e is_big st.entries) ≤ most
  pub fit : All (λ x. AllFit (2 ^ 31) e (attributes_of x)) st.entries

-- The line number programs, the string sections and the range lists of some units are no longer
-- than a bound, and no text of `.debug_line_str` holds a zero byte.
pub record IsTableBounded (most : ℕ) (st : EmittedTable) : Type 0 where
  pub lines_few : length st.lines ≤ most
  pub line_texts_few : length (section_of st.line_texts) ≤ most
  pub texts_few : length (section_of st.texts) ≤ most
  pub ranges_few : length st.ranges ≤ most
  pub no_zeros : All IsText st.line_texts

-- how many bytes sections have together
abbrev pub sections_size : SectionBytes → ℕ
sections_size s =
    length s.debug_abbrev + length s.debug_info + length s.debug_line + length s.debug_line_str
    + length s.debug_ranges + length s.debug_rnglists + length s.debug_str

-- What is emitted of a sound table has no more bytes than the table weighs, where that is below
-- 2^31.
abbrev pub WeightBoundsSize : Type 0
WeightBoundsSize =
    (e : Encoding) (is_big : Bool) (us : List UnitPart)
    → IsWritten e → IsSound us → fits e.address_size us ≡ true → table_weight us < 2 ^ 31
    → sections_size (emitted_sections e is_big us) ≤ table_weight us
