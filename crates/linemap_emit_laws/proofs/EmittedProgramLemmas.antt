-- The line number program of a unit is read as its rows and its files.
use Rattle.std.proofs.Common.{◌≡◌, ℕ, ◌+◌, ◌<◌, ◌≤◌, ◌^◌, Bool, List, [], ◌∷◌, ◌++◌, length, Some, Result, Ok, refl, sym, ap, ◌∙◌, arith, append_assoc}
use Rattle.std.proofs.lemmas.Int.{ints}
use Rattle.linemap_emit_units.specs.Error.{Error}
use Rattle.linemap_emit_units.specs.View.{View}
use Rattle.linemap_emit_units.specs.Parsers.{proceed, value_of}
use Rattle.linemap_emit_units.specs.Encoding.{Encoding}
use Rattle.linemap_emit_units.specs.Format.{Format}
use Rattle.linemap_emit_units.specs.Format.TheVariants.{Dwarf32, Dwarf64}
use Rattle.linemap_emit_units.specs.BytesAt.{bytes_at}
use Rattle.linemap_emit_units.specs.NumberBytes.{length_limit}
use Rattle.linemap_emit_units.specs.StringSections.{section_of}
use Rattle.linemap_emit_units.specs.ProgramReadBack.{Holds}
use Rattle.linemap_emit_units.specs.LineHeaders.{LineHeader}
use Rattle.linemap_emit_units.specs.HeaderParsing.{LineUnit, line_header, header_at}
use Rattle.linemap_emit_units.specs.RowPieces.{IsBuildable}
use Rattle.linemap_emit_units.specs.DwarfFiles.{DwarfFile}
use Rattle.linemap_emit_units.specs.TableParts.{UnitPart}
use Rattle.linemap_emit_units.specs.EmittedRows.{emitted_rules}
use Rattle.linemap_emit_units.specs.EmittedPrograms.{line_program_bytes, bytes_if_any}
use Rattle.linemap_emit_units.specs.TableEmission.{EmittedTable}
use Rattle.linemap_emit_units.specs.EmittedUnits.{IsWritten}
use Rattle.linemap_emit_units.specs.FittingUnits.{UnitFits}
use Rattle.linemap_emit_units.proofs.UnitProgramsRead.{program_header, header_is}
use Rattle.linemap_emit_laws.proofs.EmittedListLemmas.{skip_before}

-- ---- numbers below 2^31

-- can be written as lengths
pub length_fits : (format : Format) (n : ℕ) → n < 2 ^ 31 → n < length_limit format
length_fits Dwarf32 n small = omega arith
length_fits Dwarf64 n small = omega arith

-- and are below a limit that is no less than 2^31
pub below_limit : (limit n : ℕ) → 2 ^ 31 ≤ limit → n < 2 ^ 31 → n < limit
below_limit limit n wide small = omega arith

-- ---- the header

-- any row can be written with the parameters of programs
pub buildable : (e : Encoding) → IsWritten e → IsBuildable (emitted_rules e)
buildable e served = record {
  has_address_size = served.has_address_size;
  has_bytes = omega arith;
  has_operations = omega arith;
  base_is_low = omega (arith, ints);
  covers_zero = omega (arith, ints);
  range_is_low = omega arith;
  first_special = refl;
}

-- what the program's unit gives
abbrev pub unit_of : Encoding → View → View → LineUnit
unit_of e directory name = record { address_bytes = e.address_size; directory = Some directory; name = Some name }

-- what is read of the program at an offset of a section whose first byte has an identifier
abbrev pub program_read : (e : Encoding) (is_big : Bool) (u : UnitPart) (st : EmittedTable) → IsWritten e
    → UnitFits e is_big u st → ℕ → ℕ → View → View → LineHeader
program_read e is_big u st served fit offset first directory name =
    program_header e is_big u st.line_texts fit.program (buildable e served) fit.table_texts fit.no_zeros fit.few_files
    fit.can_emit_sequences fit.program_is offset (first + offset) directory name

-- a program after others, and before others
pub program_is : (e : Encoding) (is_big : Bool) (first : ℕ) (u : UnitPart) (st : EmittedTable)
    (s : DwarfFile) (front rest : List ℕ) (directory name : View) → (served : IsWritten e) → 2 ^ 31 ≤ s.offset_limit
    → (fit : UnitFits e is_big u st)
    → s.sections.debug_line
    ≡ bytes_at is_big first ((front ++ bytes_if_any (line_program_bytes e is_big u st.line_texts)) ++ rest)
    → header_at s.offset_limit (length front) (unit_of e directory name) s.sections.debug_line
    ≡ Ok (program_read e is_big u st served fit (length front) first directory name)
program_is e is_big first u st s front rest directory name served wide fit section =
    let unit = unit_of e directory name in
    let written = line_program_bytes e is_big u st.line_texts in
    let spelled : bytes_if_any written ≡ fit.program = ap bytes_if_any fit.program_is in
    let regrouped : (front ++ bytes_if_any written) ++ rest ≡ front ++ (fit.program ++ rest) =
    append_assoc front (bytes_if_any written) rest ∙ ap (λ (p : List ℕ). front ++ (p ++ rest)) spelled in
    let small = fit.program_small in
    let texts_small = fit.line_texts_small in
    let again =
    header_is e is_big u st.line_texts fit.program (buildable e served) fit.table_texts fit.no_zeros fit.few_files
    fit.can_emit_sequences fit.program_is s.offset_limit (length front) (first + length front) directory name rest
    (omega arith) (omega arith) in
    ap (header_at s.offset_limit (length front) unit) (section ∙ ap (bytes_at is_big first) regrouped)
    ∙ ap (λ (r : Result (Unit {0} × View) Error).
    value_of (proceed r (λ _. line_header s.offset_limit (length front) unit)))
    (skip_before is_big first front (fit.program ++ rest))
    ∙ ap (λ (r : Result (LineHeader × View) Error). value_of r) again

-- ---- the texts

sections_joined : (a b : List (List ℕ)) → section_of (a ++ b) ≡ section_of a ++ section_of b
unfolding section_of
sections_joined [] b = refl
sections_joined (t ∷ a) b =
    ap (λ (l : List ℕ). t ++ 0 ∷ l) (sections_joined a b)
    ∙ sym (append_assoc t (0 ∷ section_of a) (section_of b))

-- a section of more texts begins with those before
pub texts_held : (is_big : Bool) (first : ℕ) (texts more all : List (List ℕ)) (v : View)
    → v ≡ bytes_at is_big first (section_of all) → all ≡ texts ++ more → Holds texts v
texts_held is_big first texts more all v is are = (
  section_of more,
  ap (λ (w : View). w.bytes) is ∙ ap section_of are ∙ sections_joined texts more,
)
